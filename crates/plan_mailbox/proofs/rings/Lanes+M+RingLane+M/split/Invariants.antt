use Rattle.std.proofs.Common.{◌≡◌, ◌≤◌, ◌++◌, length, map, vec_len, vec_capacity}
use Rattle.std.specs.List.{enumerate_from}
use Rattle.std.specs.Vec.Iter.{into_iter_items}
use Rattle.plan_mailbox.specs.Ends.{free_of, outlet_of}
use Rattle.plan_mailbox.proofs.RingsApart.{end_from, free_in, outlet_from}
use Rattle.plan_mailbox.proofs.rings.Lanes+M+RingLane+M.split.Given as goal

-- the ends of the lanes so far were made, and there is capacity for the ends of all lanes
abbrev pub invariant-loop-lane : goal.invariant-loop-lane
invariant-loop-lane g l = record {
  can : (goal.iterator-loop-lane g).can_next l.lane-iterator;
  ends_once : (goal.iterator-loop-lane g).is_finite l.lane-iterator;
  left : l.yielded ++ into_iter_items l.lane-iterator ≡ l.fn.self.lanes.items;
  outlet_room : length l.fn.self.lanes.items ≤ vec_capacity l.outlets;
  end_room : length l.fn.self.lanes.items ≤ vec_capacity l.ends;
  outlet_count : vec_len l.outlets ≡ length l.yielded;
  end_count : vec_len l.ends ≡ length l.yielded;
  outlets : map outlet_of l.outlets.items ≡ map outlet_from (enumerate_from 0 l.yielded);
  free : map free_of l.outlets.items ≡ map free_in l.yielded;
  ends : l.ends.items ≡ map end_from l.yielded;
}
