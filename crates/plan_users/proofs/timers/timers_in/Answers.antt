-- The timers are those of a machine with these directories.
use Rattle.std.proofs.Common.{false, subst}
use Rattle.std.specs.Prelude.{IfSome}
use Rattle.plan_timers.specs.Timers.{AreMachineTimers, found_view}
use Rattle.plan_users.proofs.timers.timers_in.Goals as goal

pub returns-in_ok-found-in-Some-clause-found : goal.returns-in_ok-found-in-Some-clause-found
returns-in_ok-found-in-Some-clause-found g c = λ known.
    let held = g.T.Tree.held c.args.tree.now in
    let timers_are = subst (λ found. IfSome found (λ timers.
    AreMachineTimers held c.args.dirs.now false c.args.most (found_view timers)))
    c.in-Some.is (c.in_ok-machine_timers.ensures.all known) in
    (found_view c.in-Some.timers, timers_are, c.in_ok-found-in-Some.ensures known)
