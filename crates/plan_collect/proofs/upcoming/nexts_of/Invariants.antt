use Rattle.std.proofs.Common.{◌≡◌, ◌++◌, drop}
use Rattle.plan_collect.specs.Upcoming.{nexts_from}
use Rattle.plan_collect.proofs.upcoming.nexts_of.Given as goal

-- the next starts so far, and those that are left, are those of all jobs
abbrev pub invariant-loop-number : goal.invariant-loop-number
invariant-loop-number l =
    l.nexts.items ++ nexts_from l.number l.after (drop l.number l.jobs) ≡ nexts_from 0 l.after l.jobs
