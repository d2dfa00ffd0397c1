use Rattle.std.proofs.Common.{◌≡◌, drop, true}
use Rattle.plan_machine.specs.Others.{has_file}
use Rattle.plan_machine.proofs.others.has_file.Given as goal

abbrev pub invariant-loop-name : goal.invariant-loop-name
invariant-loop-name g l =
    g.T.Tree.is_known ≡ true →
    has_file (g.T.Tree.held l.tree).node l.dir l.names ≡ has_file (g.T.Tree.held l.tree).node l.dir (drop l.name-index l.names)
