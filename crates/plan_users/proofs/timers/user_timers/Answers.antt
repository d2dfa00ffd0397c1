-- The users are those who can have a manager.
use Rattle.std.proofs.Common.{◌∙◌, subst}
use Rattle.std.specs.Prelude.{Any, IfNone, IfOk, IfSome}
use Rattle.plan_users.specs.Found.{nothing, users_view}
use Rattle.plan_users.specs.Timers.{AreFoundAfter, ReachesTooMany}
use Rattle.plan_users.proofs.timers.user_timers.Goals as goal

pub returns-clause-found : goal.returns-clause-found
returns-clause-found g c = λ known.
    subst (λ managers. IfOk c.timers_among.result (λ found. IfSome found (λ timers.
    AreFoundAfter (g.T.Tree.held c.args.tree.now) c.args.most managers nothing (users_view timers))))
    (c.as_slice.ensures.value ∙ c.in_ok-managers.ensures known) (c.timers_among.ensures.found known)

pub returns-clause-too_many : goal.returns-clause-too_many
returns-clause-too_many g c = λ known.
    subst (λ managers. IfOk c.timers_among.result (λ found. IfNone found (Any (ReachesTooMany (g.T.Tree.held c.args.tree.now)) managers)))
    (c.as_slice.ensures.value ∙ c.in_ok-managers.ensures known) (c.timers_among.ensures.too_many known)
