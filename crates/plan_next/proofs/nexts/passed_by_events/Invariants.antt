use Rattle.plan_next.proofs.ClockLemmas.{NoneBelow}
use Rattle.plan_next.proofs.nexts.passed_by_events.Given as goal

-- no event so far has a clock
abbrev pub invariant-loop-i : goal.invariant-loop-i
invariant-loop-i l = NoneBelow l.events l.i
