-- What is found for one user after the other.
use Rattle.std.proofs.Common.{drop, subst, sym}
use Rattle.std.proofs.lemmas.List.{drop_all}
use Rattle.std.specs.Prelude.{IfNone, IfSome}
use Rattle.plan_users.specs.Found.{users_view}
use Rattle.plan_users.specs.Timers.{AreFoundAfter, IsFoundFor, ReachesTooMany}
use Rattle.plan_users.proofs.UserLemmas.{found_all, found_more}
use Rattle.plan_users.proofs.timers.timers_among.Goals as goal

pub loop-manager-init : goal.loop-manager-init
loop-manager-init g c = λ known all found.
    subst (λ before. AreFoundAfter (g.T.Tree.held c.args.tree.now) c.args.most c.args.managers.now before all) c.nothing-found.ensures found

pub loop-manager-preserved : goal.loop-manager-preserved
loop-manager-preserved g c = λ known all more.
    let held = g.T.Tree.held c.args.tree.now in
    let manager = c.manager-item.result in
    let own = subst (λ found. IfSome found (λ own. IsFoundFor held c.args.most manager (users_view own)))
    c.in-Some.is (c.in_ok-timers_for.ensures.found known) in
    c.loop-manager.invariant known all
    (found_more held c.args.most c.args.managers.now c.loop-manager.manager-index manager _ _ (users_view c.in-Some.own) _ all
    c.loop-manager-test.true c.manager-item.is own c.in_ok-found-in-Some.ensures more)

pub returns-in-None-clause-too_many : goal.returns-in-None-clause-too_many
returns-in-None-clause-too_many g c = λ known.
    let manager = c.manager-item.result in
    let reaches = subst (λ found. IfNone found (ReachesTooMany (g.T.Tree.held c.args.tree.now) manager))
    c.in-None.is (c.in_ok-timers_for.ensures.too_many known) in
    (c.loop-manager.manager-index, manager, c.loop-manager-test.true, sym c.manager-item.is, reaches)

pub returns-clause-found : goal.returns-clause-found
returns-clause-found g c = λ known.
    let left = drop c.loop-manager.manager-index c.args.managers.now in
    c.loop-manager.invariant known (users_view c.loop-manager.found)
    (found_all (g.T.Tree.held c.args.tree.now) c.args.most left (users_view c.loop-manager.found)
    (drop_all c.loop-manager.manager-index c.args.managers.now c.loop-manager-test.false))
