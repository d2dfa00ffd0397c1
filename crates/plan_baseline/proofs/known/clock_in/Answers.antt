use Rattle.plan_baseline.proofs.ClockLemmas.{has_clock}
use Rattle.plan_baseline.proofs.known.clock_in.Goals as goal

pub returns-in-Some-clock_of : goal.returns-in-Some-clock_of
returns-in-Some-clock_of c =
    has_clock c.args.text.now c.in-Some.field-0-0.now c.in-Some.clock.now c.in-Some.field-0-2.now c.in-Some-clock_of.clock c.in-Some.ensures.whole
    c.in-Some.ensures.date c.in-Some.ensures.clock c.in-Some-clock_of.ensures.1
