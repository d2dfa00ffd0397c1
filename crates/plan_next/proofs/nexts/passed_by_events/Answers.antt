-- Each event is checked, and none of those that were skipped has a clock.
use Rattle.std.proofs.Common.{arith}
use Rattle.plan_next.proofs.ClockLemmas.{all_none}
use Rattle.plan_next.proofs.nexts.passed_by_events.Goals as goal

pub returns : goal.returns
returns c = λ same.
    all_none c.args.events.now (λ k event lt is. c.loop-i.invariant k event (omega arith) is)
