use Rattle.std.proofs.Common.{◌≡◌, ◌≤◌}
use Rattle.plan_mailbox.specs.Ends.{outlet_of}
use Rattle.plan_threads.proofs.SendingLemmas.{IsSentUpTo}
use Rattle.plan_threads.specs.Task.{parts_of}
use Rattle.plan_threads.proofs.planner.send_notes.Given as goal

-- the pieces of the planner's jobs so far were sent, with no more starts than the limit
abbrev pub invariant-loop-number : goal.invariant-loop-number
invariant-loop-number g l =
    (l.count ≤ l.task.sizes.limit)
    × ((outlet_of l.outlet).sender ≡ (outlet_of l.initial.outlet).sender)
    × ((outlet_of l.outlet).ring ≡ (outlet_of l.initial.outlet).ring)
    × (IsSentUpTo (parts_of l.jobs l.task) l.planner (outlet_of l.outlet).sent l.count l.number)
