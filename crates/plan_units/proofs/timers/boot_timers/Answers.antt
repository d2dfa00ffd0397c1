-- What is reached is reached from `default.target`, and the timers are those of it.
use Rattle.std.proofs.Common.{sym, subst}
use Rattle.std.specs.Prelude.{IfNone, IfSome}
use Rattle.plan_units.specs.Reach.{AreReached, AreTooMany}
use Rattle.plan_units.specs.Timers.{AreTimers}
use Rattle.plan_units.specs.Wants.{wants_of}
use Rattle.plan_units.proofs.TimerLemmas.{timers_of_reached}
use Rattle.plan_units.proofs.timers.boot_timers.Goals as goal

pub returns-in-None-clause-too_many : goal.returns-in-None-clause-too_many
returns-in-None-clause-too_many g c = λ known.
    let wants = wants_of (g.T.Tree.held c.args.tree.now) c.args.dirs.now in
    subst (λ unit. AreTooMany wants unit) c.in_ok-first.ensures
    (subst (λ found. IfNone found (AreTooMany wants c.in_ok-first.first)) c.in-None.is (c.in_ok-reached_units.ensures.too_many known))

pub returns-in-Some-clause-all : goal.returns-in-Some-clause-all
returns-in-Some-clause-all g c = λ known.
    let held = g.T.Tree.held c.args.tree.now in
    let dirs = c.args.dirs.now in
    let reached = subst (λ found. IfSome found (λ names. AreReached (wants_of held dirs) c.in_ok-first.first names.items)) c.in-Some.is
    (c.in_ok-reached_units.ensures.all known) in
    subst (AreTimers held dirs) (sym c.timers_among.ensures)
    (timers_of_reached held dirs c.in_ok-first.first c.in-Some.names.items c.in_ok-first.ensures reached)
