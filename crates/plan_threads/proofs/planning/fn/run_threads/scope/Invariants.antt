use Rattle.std.proofs.Common.{◌≡◌, ◌≤◌, ◌+◌, vec_len, vec_capacity}
use Rattle.std.specs.Vec.Iter.{into_iter_items, into_iter_len}
use Rattle.plan_mailbox.specs.Ends.{inlet_of}
use Rattle.plan_threads.specs.Gathering.{AreFresh, ArePlanners}
use Rattle.plan_threads.specs.Task.{parts_of}
use Rattle.plan_threads.proofs.planning.fn.run_threads.scope.Given as goal

-- the threads so far belong to the first planners, and the remaining outlets to the others
abbrev pub invariant-loop-outlet : goal.invariant-loop-outlet
invariant-loop-outlet g l = record {
  can : (goal.iterator-loop-outlet g).can_next l.outlet-iterator;
  ends : (goal.iterator-loop-outlet g).is_finite l.outlet-iterator;
  threads : ArePlanners (parts_of l.jobs l.task) (inlet_of l.desk.inlet).rings 0 l.threads.items;
  outlets : AreFresh (inlet_of l.desk.inlet).rings (vec_len l.threads) (into_iter_items l.outlet-iterator);
  all : vec_len l.threads + into_iter_len l.outlet-iterator ≡ l.task.sizes.planners;
  room : l.task.sizes.planners ≤ vec_capacity l.threads;
}
