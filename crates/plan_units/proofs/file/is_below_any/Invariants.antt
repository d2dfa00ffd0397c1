use Rattle.std.proofs.Common.{◌≡◌, drop, map}
use Rattle.std.specs.List.{list_any}
use Rattle.plan_units.specs.UnitFile.{is_below}
use Rattle.plan_units.proofs.file.is_below_any.Given as goal

abbrev pub invariant-loop-dir : goal.invariant-loop-dir
invariant-loop-dir l =
    list_any (λ dir. is_below l.path dir) (map (λ dir. dir.now) l.dirs)
    ≡ list_any (λ dir. is_below l.path dir) (map (λ dir. dir.now) (drop l.dir-index l.dirs))
