use Rattle.std.proofs.Common.{◌≡◌, take}
use Rattle.plan_collect.specs.Windows.{timings_of}
use Rattle.plan_collect.proofs.timing.timings_in.Given as goal

-- the timings of the jobs so far
abbrev pub invariant-loop-number : goal.invariant-loop-number
invariant-loop-number l = l.timings.items ≡ timings_of (take l.number l.jobs)
