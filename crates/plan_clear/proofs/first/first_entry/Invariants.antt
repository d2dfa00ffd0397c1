use Rattle.plan_clear.specs.First.{whole_minutes}
use Rattle.plan_clear.proofs.FirstLemmas.{IsFirstOf, opens_in}
use Rattle.plan_clear.proofs.first.first_entry.Given as goal

-- the first entry of the jobs so far
abbrev pub invariant-loop-number : goal.invariant-loop-number
invariant-loop-number l = IsFirstOf (opens_in (whole_minutes l.jobs) l.span) l.number l.first
