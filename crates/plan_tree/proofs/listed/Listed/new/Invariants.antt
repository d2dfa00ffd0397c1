use Rattle.std.proofs.Common.{◌≡◌, true}
use Rattle.plan_tree.specs.Kept.{IsKept}
use Rattle.plan_tree.proofs.listed.Listed.new.Given as goal

abbrev pub invariant-loop-path : goal.invariant-loop-path
invariant-loop-path g l = g.T.Tree.is_known ≡ true → IsKept (g.T.Tree.held l.tree) l.kept
