use Rattle.std.proofs.Common.{◌≡◌, ◌<◌, ◌-◌, true}
use Rattle.plan_next.specs.Close.{has_close_starts}
use Rattle.plan_next.specs.Starts.{is_start}
use Rattle.plan_next.proofs.close.has_close_starts.Given as goal

-- no start before the present one has a close one after it
abbrev pub invariant-loop-starts : goal.invariant-loop-starts
invariant-loop-starts l = record {
  rule : l.starts.rule ≡ l.rule;
  upto : l.starts.upto ≡ l.end;
  is : l.starts.since < l.end → is_start l.rule l.starts.since ≡ true;
  left : has_close_starts l.rule l.since l.until l.apart ≡ has_close_starts l.rule l.starts.since l.until l.apart;
}

abbrev pub decreases-loop-starts : goal.decreases-loop-starts
decreases-loop-starts l = l.end - l.starts.since
