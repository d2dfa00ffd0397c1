-- The tree that the user's manager reads holds what it should.
use Rattle.std.proofs.Common.{IfOk, IfNone, IfSome, ◌∙◌, ap, subst}
use Rattle.plan_units.specs.Reach.{AreTooMany}
use Rattle.plan_units.specs.Timers.{first_unit}
use Rattle.plan_units.specs.Wants.{wants_of}
use Rattle.plan_users.specs.Found.{users_view}
use Rattle.plan_users.specs.Timers.{IsFoundIn}
use Rattle.plan_users.specs.UserTree.{held_for}
use Rattle.plan_users.proofs.timers.timers_of.Goals as goal

pub returns-clause-found : goal.returns-clause-found
returns-clause-found g c = λ known.
    let manager = c.args.manager.now in
    let same = c.new-read.ensures ∙ ap (held_for manager) c.in_ok-listed.ensures in
    subst (λ dirs. IfOk c.timers_in.result (λ found. IfSome found (λ own.
    IsFoundIn (held_for manager (g.T.Tree.held c.args.tree.now)) dirs c.args.most manager (users_view own))))
    (c.as_slice-2.ensures.value ∙ c.in_ok-dirs.ensures known)
    (subst (λ held. IfOk c.timers_in.result (λ found. IfSome found (λ own.
    IsFoundIn held c.as_slice-2.result.now c.args.most manager (users_view own))))
    same (c.timers_in.ensures.found known))

pub returns-clause-too_many : goal.returns-clause-too_many
returns-clause-too_many g c = λ known.
    let manager = c.args.manager.now in
    let same = c.new-read.ensures ∙ ap (held_for manager) c.in_ok-listed.ensures in
    subst (λ dirs. IfOk c.timers_in.result (λ found. IfNone found
    (AreTooMany (wants_of (held_for manager (g.T.Tree.held c.args.tree.now)) dirs) first_unit)))
    (c.as_slice-2.ensures.value ∙ c.in_ok-dirs.ensures known)
    (subst (λ held. IfOk c.timers_in.result (λ found. IfNone found (AreTooMany (wants_of held c.as_slice-2.result.now) first_unit)))
    same (c.timers_in.ensures.too_many known))
