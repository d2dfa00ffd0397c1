use Rattle.std.proofs.Common.{◌-◌, ◌≤◌}
use Rattle.plan_next.specs.Search.{starts_by}
use Rattle.plan_next.specs.Starts.{NoneIn}
use Rattle.plan_next.proofs.search.Pattern.first_by_clock.Given as goal

-- no start was skipped
abbrev pub invariant-loop-from : goal.invariant-loop-from
invariant-loop-from l = record {
  after : l.since ≤ l.from;
  none : NoneIn (starts_by l.self) l.since l.from;
}

abbrev pub decreases-loop-from : goal.decreases-loop-from
decreases-loop-from l = l.end - l.from
