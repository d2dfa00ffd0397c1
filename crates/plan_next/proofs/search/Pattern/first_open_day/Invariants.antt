use Rattle.std.proofs.Common.{◌-◌, ◌≤◌}
use Rattle.plan_next.specs.Search.{admits_day}
use Rattle.plan_next.specs.Starts.{NoneIn}
use Rattle.plan_next.proofs.search.Pattern.first_open_day.Given as goal

-- no day up to here matches
abbrev pub invariant-loop-day : goal.invariant-loop-day
invariant-loop-day l = record {
  low : l.from ≤ l.day;
  none : NoneIn (admits_day l.self) l.from l.day;
}

abbrev pub decreases-loop-day : goal.decreases-loop-day
decreases-loop-day l = l.until - l.day
