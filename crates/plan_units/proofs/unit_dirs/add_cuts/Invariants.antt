use Rattle.std.proofs.Common.{◌≡◌, ◌++◌, drop, map}
use Rattle.plan_units.specs.UnitDirs.{cuts_of, with_end}
use Rattle.plan_units.proofs.unit_dirs.add_cuts.Given as goal

abbrev pub invariant-loop-shorter : goal.invariant-loop-shorter
invariant-loop-shorter l =
    l.names.items ++ with_end l.back (map (λ cut. cut.now) (drop l.shorter-index l.shorter-items))
    ≡ l.initial.names.items ++ with_end l.back (cuts_of l.prefix)
