use Rattle.std.proofs.Common.{◌≡◌, true}
use Rattle.plan_tree.specs.Kept.{Keeps}
use Rattle.plan_tree.proofs.listed.keep_below.Given as goal

abbrev pub invariant-loop-dir : goal.invariant-loop-dir
invariant-loop-dir g l = g.T.Tree.is_known ≡ true → Keeps (g.T.Tree.held l.tree) l.fn.kept l.kept
