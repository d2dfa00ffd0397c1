use Rattle.std.proofs.Common.{◌≡◌, drop, true}
use Rattle.plan_machine.specs.Spool.{with_users}
use Rattle.plan_machine.proofs.spool.with_users.Given as goal

abbrev pub invariant-loop-name : goal.invariant-loop-name
invariant-loop-name g l =
    g.T.Tree.is_known ≡ true →
    with_users (g.T.Tree.held l.tree) l.most l.dir l.names l.all (drop l.name-index l.names)
    ≡ with_users (g.T.Tree.held l.tree) l.most l.dir l.names l.fn.all l.names
