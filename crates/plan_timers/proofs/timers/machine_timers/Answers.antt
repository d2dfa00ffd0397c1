-- What is reached is reached from `default.target`.
use Rattle.std.proofs.Common.{subst}
use Rattle.std.specs.Prelude.{IfNone, IfSome}
use Rattle.plan_units.specs.Reach.{AreReached, AreTooMany}
use Rattle.plan_units.specs.Wants.{wants_of}
use Rattle.plan_timers.proofs.timers.machine_timers.Goals as goal

pub returns-in-None-clause-too_many : goal.returns-in-None-clause-too_many
returns-in-None-clause-too_many g c = λ known.
    let wants = wants_of (g.T.Tree.held c.args.tree.now) c.args.dirs.now in
    subst (λ unit. AreTooMany wants unit) c.in_ok-first.ensures
    (subst (λ found. IfNone found (AreTooMany wants c.in_ok-first.first)) c.in-None.is (c.in_ok-reached_units.ensures.too_many known))

pub returns-in_ok-timers_among-in-Some-clause-all : goal.returns-in_ok-timers_among-in-Some-clause-all
returns-in_ok-timers_among-in-Some-clause-all g c = λ known.
    let wants = wants_of (g.T.Tree.held c.args.tree.now) c.args.dirs.now in
    let reached = subst (λ found. IfSome found (λ names. AreReached wants c.in_ok-first.first names.items)) c.in-Some.is
    (c.in_ok-reached_units.ensures.all known) in (
      c.in-Some.reached.items,
      subst (λ unit. AreReached wants unit c.in-Some.reached.items) c.in_ok-first.ensures reached,
      c.in_ok-timers_among-in-Some.ensures known,
    )
