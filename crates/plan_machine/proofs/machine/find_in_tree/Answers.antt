-- The units are those in the search path.
use Rattle.std.proofs.Common.{◌∙◌, subst, sym}
use Rattle.std.specs.Prelude.{IfSome}
use Rattle.plan_timers.specs.Timers.{AreMachineTimers, found_view}
use Rattle.plan_users.specs.Found.{users_view}
use Rattle.plan_machine.specs.Machine.{IsMachineOf}
use Rattle.plan_machine.proofs.machine.find_in_tree.Goals as goal

pub returns-in_ok-machine-in-Some-clause-found : goal.returns-in_ok-machine-in-Some-clause-found
returns-in_ok-machine-in-Some-clause-found g c = λ known.
    let held = g.T.Tree.held c.args.tree.now in
    let machine = c.in_ok-machine-in-Some.machine in
    let timers = c.in-Some.timers in
    let read = c.in_ok-dirs.ensures known in
    let timers_are = subst (λ found. IfSome found (λ timers.
    AreMachineTimers held c.as_slice.result.now c.args.all c.args.most (found_view timers)))
    c.in-Some.is (c.in_ok-machine_timers.ensures.all known) in
    let timers_of = subst (λ dirs. AreMachineTimers held dirs c.args.all c.args.most (found_view timers))
    (c.as_slice.ensures.value ∙ sym c.as_slice-in-Some.ensures.value) timers_are in
    subst (λ dirs. IsMachineOf held dirs c.args.all c.args.most (users_view c.args.users) machine) (c.as_slice-in-Some.ensures.value ∙ read)
    (found_view timers, timers_of, c.in_ok-machine-in-Some.ensures known)
