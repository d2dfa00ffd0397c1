use Rattle.std.proofs.Common.{◌≡◌, ◌++◌, drop, true}
use Rattle.plan_units.specs.Wants.{set_in}
use Rattle.plan_units.proofs.wants.set_in.Given as goal

abbrev pub invariant-loop-file : goal.invariant-loop-file
invariant-loop-file g l =
    g.T.Tree.is_known ≡ true →
    l.names.items ++ set_in (g.T.Tree.held l.tree) l.unit (drop l.file-index l.files) ≡ set_in (g.T.Tree.held l.tree) l.unit l.files
