-- The case is that of the test.
use Rattle.std.proofs.Common.{◌∙◌, subst, sym}
use Rattle.std.proofs.lemmas.Result.{IfOk-weaker}
use Rattle.std.specs.Prelude.{IfNone, IfOk, IfSome}
use Rattle.plan_units.specs.Reach.{AreTooMany}
use Rattle.plan_units.specs.Timers.{first_unit}
use Rattle.plan_units.specs.Wants.{wants_of}
use Rattle.plan_users.specs.Dirs.{user_dirs}
use Rattle.plan_users.specs.Found.{users_view}
use Rattle.plan_users.specs.Timers.{IsFoundBy, ReachesTooMany}
use Rattle.plan_users.specs.UserTree.{held_for}
use Rattle.plan_users.proofs.UserLemmas.{none_more}
use Rattle.plan_users.proofs.timers.timers_for.Goals as goal

pub returns-then-has-clause-found : goal.returns-then-has-clause-found
returns-then-has-clause-found g c = λ known.
    let held = g.T.Tree.held c.args.tree.now in
    subst (λ has. IfOk c.timers_of.result (λ found. IfSome found (λ own.
    IsFoundBy held c.args.most c.args.manager.now has (users_view own))))
    (sym c.if-has.true ∙ c.in_ok-has.ensures known) (c.timers_of.ensures.found known)

pub returns-then-has-clause-too_many : goal.returns-then-has-clause-too_many
returns-then-has-clause-too_many g c = λ known.
    let held = g.T.Tree.held c.args.tree.now in
    let manager = c.args.manager.now in
    IfOk-weaker c.timers_of.result
    (λ found. IfNone found (AreTooMany (wants_of (held_for manager held) (user_dirs held.node manager.home)) first_unit))
    (λ found. IfNone found (ReachesTooMany held manager))
    (λ found. none_more _ _ (λ reaches. (sym (c.in_ok-has.ensures known) ∙ c.if-has.true, reaches)) found)
    (c.timers_of.ensures.too_many known)

pub returns-else-has-clause-found : goal.returns-else-has-clause-found
returns-else-has-clause-found g c = λ known.
    subst (λ has. IsFoundBy (g.T.Tree.held c.args.tree.now) c.args.most c.args.manager.now has (users_view c.nothing.result))
    (sym c.if-has.false ∙ c.in_ok-has.ensures known) c.nothing.ensures
