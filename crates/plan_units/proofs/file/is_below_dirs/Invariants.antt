use Rattle.std.proofs.Common.{◌≡◌, drop}
use Rattle.std.specs.List.{list_any}
use Rattle.plan_units.specs.UnitFile.{is_below_dir}
use Rattle.plan_units.proofs.file.is_below_dirs.Given as goal

abbrev pub invariant-loop-dir : goal.invariant-loop-dir
invariant-loop-dir l =
    list_any (λ dir. is_below_dir l.path dir) l.dirs ≡ list_any (λ dir. is_below_dir l.path dir) (drop l.dir-index l.dirs)
