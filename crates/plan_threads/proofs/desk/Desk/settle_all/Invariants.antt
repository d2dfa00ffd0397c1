use Rattle.std.proofs.Common.{◌≡◌, ◌<◌, ◌≤◌, ◌+◌, ℕ, OnOk, IfErr, vec_len}
use Rattle.std.specs.Vec.Iter.{into_iter_items, into_iter_len}
use Rattle.plan_mailbox.specs.Ends.{inlet_of}
use Rattle.plan_threads.specs.Gathering.{ArePlanners, IsAccounted, IsThreadFault}
use Rattle.plan_threads.specs.Task.{all_notes, task_of}
use Rattle.plan_threads.proofs.desk.Desk.settle_all.Given as goal

-- the planners so far were joined
abbrev pub invariant-loop-planner : goal.invariant-loop-planner
invariant-loop-planner g l =
    let before = l.fn.self in
    (l.self.collector ≡ before.collector)
    × (l.self.first_fault ≡ before.first_fault)
    × ((inlet_of l.self.inlet).rings ≡ (inlet_of before.inlet).rings)
    × ((inlet_of l.self.inlet).taken ≡ (inlet_of before.inlet).taken)
    × ((done : ℕ) → done + into_iter_len l.planner-iterator ≡ vec_len l.fn.planners →
    ArePlanners (task_of before.collector) (inlet_of before.inlet).rings done (into_iter_items l.planner-iterator)
    × OnOk l.settled ((k : ℕ) → k < done → IsAccounted (inlet_of l.self.inlet) k (all_notes (task_of before.collector) k)))
    × IfErr l.settled IsThreadFault
    × (into_iter_len l.planner-iterator ≤ vec_len l.fn.planners)
