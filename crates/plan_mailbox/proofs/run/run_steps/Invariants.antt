use Rattle.std.proofs.Common.{◌≡◌, ◌≤◌, ◌++◌, vec_capacity, length}
use Rattle.std.specs.Vec.Iter.{into_iter_items}
use Rattle.plan_mailbox.specs.Mailbox.{senders_of}
use Rattle.plan_mailbox.proofs.Runs.{IsRun}
use Rattle.plan_mailbox.proofs.run.run_steps.Given as goal

-- the steps so far got these replies, and there is capacity for the replies to all steps
abbrev pub invariant-loop-step : goal.invariant-loop-step
invariant-loop-step g l =
    let before = g.P.Post.seen l.fn.post in
    record {
      steps : l.yielded ++ into_iter_items l.step-iterator ≡ l.fn.steps.items;
      room : length l.fn.steps.items ≤ vec_capacity l.replies;
      run : IsRun (senders_of before) before.room l.yielded l.replies.items (g.P.Post.seen l.post);
    }
