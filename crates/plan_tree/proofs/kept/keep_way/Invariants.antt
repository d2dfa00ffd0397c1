use Rattle.std.proofs.Common.{◌≡◌, true}
use Rattle.plan_tree.specs.Kept.{Keeps}
use Rattle.plan_tree.proofs.kept.keep_way.Given as goal

abbrev pub invariant-loop-name : goal.invariant-loop-name
invariant-loop-name g l = g.T.Tree.is_known ≡ true → Keeps (g.T.Tree.held l.tree) l.fn.kept l.kept
