use Rattle.std.proofs.Common.{◌≡◌, drop, true}
use Rattle.plan_machine.specs.Cron.{with_packages}
use Rattle.plan_machine.proofs.cron.with_packages.Given as goal

abbrev pub invariant-loop-name : goal.invariant-loop-name
invariant-loop-name g l =
    g.T.Tree.is_known ≡ true →
    with_packages (g.T.Tree.held l.tree) l.most l.dir l.all (drop l.name-index l.names)
    ≡ with_packages (g.T.Tree.held l.tree) l.most l.dir l.fn.all l.names
