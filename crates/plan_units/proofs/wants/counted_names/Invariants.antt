use Rattle.std.proofs.Common.{◌≡◌, ◌++◌, drop, true}
use Rattle.plan_units.specs.Wants.{counted_names}
use Rattle.plan_units.proofs.wants.counted_names.Given as goal

abbrev pub invariant-loop-entry : goal.invariant-loop-entry
invariant-loop-entry g l =
    g.T.Tree.is_known ≡ true →
    l.names.items ++ counted_names (g.T.Tree.held l.tree).node l.unit (drop l.entry-index l.found)
    ≡ counted_names (g.T.Tree.held l.tree).node l.unit l.found
