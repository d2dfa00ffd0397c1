use Rattle.std.proofs.Common.{◌≡◌, ◌++◌, drop, true}
use Rattle.plan_machine.specs.Others.{timers_of_homes}
use Rattle.plan_machine.proofs.others.timers_of_homes.Given as goal

abbrev pub invariant-loop-name : goal.invariant-loop-name
invariant-loop-name g l =
    g.T.Tree.is_known ≡ true →
    l.found.items ++ timers_of_homes (g.T.Tree.held l.tree) l.known (drop l.name-index l.names)
    ≡ timers_of_homes (g.T.Tree.held l.tree) l.known l.names
