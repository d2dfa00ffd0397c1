-- The tree that knows its directories holds what the tree does, and the timers of its users are found first.
use Rattle.std.proofs.Common.{inl, inr, subst}
use Rattle.std.proofs.lemmas.Result.{IfOk-weaker}
use Rattle.std.specs.Prelude.{IfOk, IfNone, IfSome}
use Rattle.plan_users.specs.Found.{users_view}
use Rattle.plan_users.specs.Timers.{AreTooManyUserUnits, AreUserTimers}
use Rattle.plan_machine.specs.Machine.{AreTooManyBootUnits, AreTooManyUnits, IsMachine, IsMachineWith}
use Rattle.plan_machine.proofs.UserLemmas.{none_more, some_more}
use Rattle.plan_machine.proofs.machine.find_machine.Goals as goal

pub returns-in-None-clause-too_many : goal.returns-in-None-clause-too_many
returns-in-None-clause-too_many g c = λ known.
    inr (subst (λ found. IfNone found (AreTooManyUserUnits (g.T.Tree.held c.args.tree.now))) c.in-None.is
    (c.in_ok-user_timers.ensures.too_many known))

pub returns-in_ok-listed-in-Some-clause-found : goal.returns-in_ok-listed-in-Some-clause-found
returns-in_ok-listed-in-Some-clause-found g c = λ known.
    let held = g.T.Tree.held c.args.tree.now in
    let users = users_view c.in-Some.users in
    let are = subst (λ found. IfSome found (λ timers. AreUserTimers held c.args.most (users_view timers))) c.in-Some.is
    (c.in_ok-user_timers.ensures.found known) in
    IfOk-weaker c.find_in_tree.result
    (λ found. IfSome found (λ machine. IsMachineWith held c.args.all c.args.most users machine))
    (λ found. IfSome found (λ machine. IsMachine held c.args.all c.args.most machine))
    (λ found. some_more _ _ (λ machine is. (users, are, is)) found)
    (subst (λ held. IfOk c.find_in_tree.result (λ found. IfSome found (λ machine.
    IsMachineWith held c.args.all c.args.most users machine))) c.in_ok-listed-in-Some.ensures (c.find_in_tree.ensures.found known))

pub returns-in_ok-listed-in-Some-clause-too_many : goal.returns-in_ok-listed-in-Some-clause-too_many
returns-in_ok-listed-in-Some-clause-too_many g c = λ known.
    let held = g.T.Tree.held c.args.tree.now in
    IfOk-weaker c.find_in_tree.result
    (λ found. IfNone found (AreTooManyBootUnits held))
    (λ found. IfNone found (AreTooManyUnits held))
    (λ found. none_more _ _ (λ many. inl many) found)
    (subst (λ held. IfOk c.find_in_tree.result (λ found. IfNone found (AreTooManyBootUnits held)))
    c.in_ok-listed-in-Some.ensures (c.find_in_tree.ensures.too_many known))
