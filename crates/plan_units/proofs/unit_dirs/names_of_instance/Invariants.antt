use Rattle.std.proofs.Common.{◌≡◌, ◌∷◌, ◌++◌, drop, map}
use Rattle.plan_units.specs.UnitDirs.{cuts_of, names_of_instance}
use Rattle.plan_units.proofs.unit_dirs.names_of_instance.Given as goal

abbrev pub invariant-loop-shorter : goal.invariant-loop-shorter
invariant-loop-shorter l =
    l.names.items ++ names_of_instance l.instance l.back (map (λ cut. cut.now) (drop l.shorter-index l.shorter-items))
    ≡ names_of_instance l.instance l.back (l.prefix ∷ cuts_of l.prefix)
