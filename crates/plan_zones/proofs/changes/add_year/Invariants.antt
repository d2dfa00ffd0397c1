use Rattle.std.proofs.Common.{◌-◌, ◌≤◌}
use Rattle.plan_zones.specs.Changes.{Covers}
use Rattle.plan_zones.proofs.changes.add_year.Given as goal

abbrev pub invariant-loop-second : goal.invariant-loop-second
invariant-loop-second l = record {
  from : l.start ≤ l.second;
  upto : l.second ≤ l.end;
  covered : Covers l.zone l.changes.items l.second;
}

abbrev pub decreases-loop-second : goal.decreases-loop-second
decreases-loop-second l = l.end - l.second
