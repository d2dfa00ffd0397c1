use Rattle.std.proofs.Common.{◌+◌, ◌-◌, ◌≤◌}
use Rattle.plan_sets.specs.Limits.{end_second}
use Rattle.plan_times.specs.LocalTimes.{Shows, Skips, IsPicked}
use Rattle.plan_times.proofs.PickLemmas.{IsBefore}
use Rattle.plan_times.proofs.local_time.second_of.Given as goal

-- what is picked of the seconds so far
abbrev pub invariant-loop-from : goal.invariant-loop-from
invariant-loop-from l = record {
  inside : l.from ≤ end_second + 1;
  shown : IsPicked l.latest (Shows l.clock l.local) l.from l.shown;
  skipped : IsPicked l.latest (Skips l.clock l.local) l.from l.skipped;
  before : IsBefore l.clock l.local l.from l.before;
}

abbrev pub decreases-loop-from : goal.decreases-loop-from
decreases-loop-from l = end_second + 1 - l.from
