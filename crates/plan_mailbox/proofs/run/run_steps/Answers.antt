-- For `run_steps`. At the end all steps were performed, so the invariant speaks of the whole list.
use Rattle.std.proofs.Common.{sym, ap, ◌∙◌, append_assoc, ◌++◌, arith}
use Rattle.std.proofs.lemmas.List.{length-append}
use Rattle.plan_mailbox.specs.Mailbox.{senders_of}
use Rattle.plan_mailbox.proofs.Runs.{IsRun-nil, IsRun-push}
use Rattle.plan_mailbox.proofs.run.run_steps.Goals as goal
use Rattle.std.proofs.lemmas.Bool.Decides.{nat_tests}
use Rattle.std.proofs.lemmas.Grind.{common_steps}

pub loop-step-init : goal.loop-step-init
loop-step-init g c = grind (arith, nat_tests, common_steps, IsRun-nil)

pub push_reserved-requires : goal.push_reserved-requires
push_reserved-requires g c = grind (arith, nat_tests, common_steps, length-append)

pub loop-step-preserved : goal.loop-step-preserved
loop-step-preserved g c =
    let before = g.P.Post.seen c.args.post.now in
    let seen = g.P.Post.seen c.loop-step.post in
    record {
      steps = rw append_assoc (ap (λ r. c.loop-step.yielded ++ r) (sym c.in-Some.ensures.steps.0) ∙ c.loop-step.invariant.steps);
      room = omega (arith, c.push_reserved.ensures.capacity);
      run = rw (c.push_reserved.ensures.items, c.take_step-reply.ensures.reply, c.take_step-reply.ensures.after)
          (IsRun-push (senders_of before) before.room c.loop-step.yielded c.loop-step.replies.items seen c.in-Some.step
          c.loop-step.invariant.run);
    }
