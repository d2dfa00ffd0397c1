use Rattle.plan_collect.specs.Windows.{timings_of}
use Rattle.plan_serial.proofs.SerialLemmas.{IsUpTo}
use Rattle.plan_serial.proofs.serial.plan_serial.Given as goal

-- the jobs so far were collected
abbrev pub invariant-loop-number : goal.invariant-loop-number
invariant-loop-number l = IsUpTo (timings_of l.jobs) l.span l.limit l.number l.collector
