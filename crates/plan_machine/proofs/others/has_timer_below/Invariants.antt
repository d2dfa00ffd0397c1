use Rattle.std.proofs.Common.{◌≡◌, drop, true}
use Rattle.plan_machine.specs.Others.{has_timer_below}
use Rattle.plan_machine.proofs.others.has_timer_below.Given as goal

abbrev pub invariant-loop-name : goal.invariant-loop-name
invariant-loop-name g l =
    g.T.Tree.is_known ≡ true →
    has_timer_below (g.T.Tree.held l.tree) l.dir l.names ≡ has_timer_below (g.T.Tree.held l.tree) l.dir (drop l.name-index l.names)
