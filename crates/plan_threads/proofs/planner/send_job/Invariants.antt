use Rattle.std.proofs.Common.{◌≡◌, ◌-◌, ◌≤◌}
use Rattle.plan_collect.specs.Windows.{first_second}
use Rattle.plan_mailbox.specs.Ends.{outlet_of}
use Rattle.plan_threads.proofs.SendingLemmas.{IsSentTo}
use Rattle.plan_threads.proofs.planner.send_job.Given as goal

-- the pieces up to this second were sent, with no more starts than the limit
abbrev pub invariant-loop-piece : goal.invariant-loop-piece
invariant-loop-piece g l =
    let span = l.task.span in
    (l.since ≤ span.upto)
    × (l.reached ≤ l.task.sizes.limit)
    × ((outlet_of l.outlet).sender ≡ (outlet_of l.initial.outlet).sender)
    × ((outlet_of l.outlet).ring ≡ (outlet_of l.initial.outlet).ring)
    × IsSentTo l.task.sizes.limit l.count l.number l.job.rule (first_second span l.job.delay) span.upto (outlet_of l.initial.outlet).sent
    (outlet_of l.outlet).sent l.reached l.since

abbrev pub decreases-loop-piece : goal.decreases-loop-piece
decreases-loop-piece g l = l.task.span.upto - l.since
