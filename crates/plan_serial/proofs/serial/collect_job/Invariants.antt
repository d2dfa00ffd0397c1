use Rattle.std.proofs.Common.{◌-◌, ◌≤◌}
use Rattle.plan_serial.proofs.CollectLemmas.{IsAt}
use Rattle.plan_serial.proofs.serial.collect_job.Given as goal

-- the pieces up to this second were collected
abbrev pub invariant-loop-piece : goal.invariant-loop-piece
invariant-loop-piece l = IsAt l.fn.collector l.collector l.number l.since × (l.since ≤ l.span.upto)

abbrev pub decreases-loop-piece : goal.decreases-loop-piece
decreases-loop-piece l = l.span.upto - l.since
