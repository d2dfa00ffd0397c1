-- For the loop of `send_notes`, its `all` and its `prefix`. What was sent and what remains from a job on are all
-- messages. A job of another planner changes nothing (`upto_other`). A job of this planner moves its pieces over
-- (`upto_own`), or a part of them if an allocation failed. Past the limit nothing remains (`upto_over`), and after all
-- jobs only the last message.
use Rattle.std.proofs.Common.{◌<◌, ◌+◌, ◌++◌, length, sym, ap, subst, ◌∙◌, arith}
use Rattle.plan_collect.specs.declared.note.Note.{Note}
use Rattle.plan_collect.specs.AgendaLaws.{job_there, length-timings_of}
use Rattle.plan_collect.specs.Windows.{timing_of}
use Rattle.plan_mailbox.specs.Ends.{SendingEnd, outlet_of}
use Rattle.plan_mailbox.specs.History.{IsPrefix}
use Rattle.plan_threads.specs.Sending.{cut_rest}
use Rattle.plan_threads.specs.Task.{all_notes, parts_of}
use Rattle.plan_threads.proofs.SendingLemmas.{notes_from, upto_other, upto_own, upto_own_part, upto_over, upto_end, timing_at, on_err}
use Rattle.plan_threads.proofs.planner.send_notes.Goals as goal
use Rattle.plan_threads.proofs.planner.send_notes.Goals.{in-Some+in_ok-count, in_default}

pub loop-number-preserved-then-number-task : goal.loop-number-preserved-then-number-task
loop-number-preserved-then-number-task g c =
    let task = parts_of c.args.jobs.now c.args.task.now in
    let so_far = c.loop-number.invariant in
    let inside : c.loop-number.number < length task.timings = omega
    (arith, length-timings_of c.args.jobs.now, c.len-number-end.ensures.len) in (
      so_far.0,
      so_far.1,
      so_far.2,
      upto_other task c.sender-planner.result (outlet_of c.loop-number.outlet).sent c.loop-number.count c.loop-number.number
          so_far.3 inside c.if-number-task.true,
    )

pub returns-in_err-count-clause-prefix : goal.returns-in_err-count-clause-prefix
returns-in_err-count-clause-prefix g c =
    let task = parts_of c.args.jobs.now c.args.task.now in
    let new = (outlet_of c.send_job.new.outlet).sent in
    let there = timing_at c.args.jobs.now c.loop-number.number c.in-Some.job.now c.in-Some.ensures in
    let part = upto_own_part task c.sender-planner.result (outlet_of c.loop-number.outlet).sent new c.loop-number.count
    c.loop-number.number (timing_of c.in-Some.job.now) c.loop-number.invariant.3 there c.if-number-task.false
    c.in_err-count.ensures.prefix in
    on_err c.from_residual.result _ (IsPrefix new (all_notes task (outlet_of c.args.outlet.now).sender)) c.from_residual.ensures.1
    (subst (λ k. IsPrefix new (all_notes task k)) c.sender-planner.ensures part)

pub returns-then-count-task-clause-all : goal.returns-then-count-task-clause-all
returns-then-count-task-clause-all g c =
    let task = parts_of c.args.jobs.now c.args.task.now in
    let jobs = c.args.jobs.now in
    elim c.match-get.branch [
      | in-Some+in_ok-count w ↦ (
          let there = timing_at jobs c.loop-number.number w.in-Some.job.now w.in-Some.ensures in
          let new = (outlet_of w.send_job.new.outlet).sent in
          let all = upto_own task c.sender-planner.result (outlet_of c.loop-number.outlet).sent new c.loop-number.count
          w.in_ok-count.count c.loop-number.number (timing_of w.in-Some.job.now) c.loop-number.invariant.3 there c.if-number-task.false
          w.in_ok-count.ensures.all in
          ap (λ o. (outlet_of o).sent) w.outlet-is
          ∙ upto_over task c.sender-planner.result new w.in_ok-count.count (c.loop-number.number + 1) all
          (omega (arith, c.if-count-task.true, w.count-is))
          ∙ ap (all_notes task) c.sender-planner.ensures)
      | in_default w ↦ absurd (job_there jobs c.loop-number.number w.in_default.ensures (omega (arith, c.len-number-end.ensures.len)))
    ]

pub loop-number-preserved : goal.loop-number-preserved
loop-number-preserved g c =
    let task = parts_of c.args.jobs.now c.args.task.now in
    let jobs = c.args.jobs.now in
    elim c.match-get.branch [
      | in-Some+in_ok-count w ↦ (
          let there = timing_at jobs c.loop-number.number w.in-Some.job.now w.in-Some.ensures in
          let new = (outlet_of w.send_job.new.outlet).sent in
          let all = upto_own task c.sender-planner.result (outlet_of c.loop-number.outlet).sent new c.loop-number.count
          w.in_ok-count.count c.loop-number.number (timing_of w.in-Some.job.now) c.loop-number.invariant.3 there c.if-number-task.false
          w.in_ok-count.ensures.all in (
            c.if-count-task.false,
            ap (λ o. (outlet_of o).sender) w.outlet-is ∙ w.in_ok-count.ensures.sender ∙ c.loop-number.invariant.1,
            ap (λ o. (outlet_of o).ring) w.outlet-is ∙ w.in_ok-count.ensures.ring ∙ c.loop-number.invariant.2,
            all ∙ sym (λ i. (outlet_of (w.outlet-is i)).sent
                ++ cut_rest task.limit (w.count-is i) (notes_from task c.sender-planner.result (c.loop-number.number + 1))),
          ))
      | in_default w ↦ absurd (job_there jobs c.loop-number.number w.in_default.ensures (omega (arith, c.len-number-end.ensures.len)))
    ]

pub returns-clause-all : goal.returns-clause-all
returns-clause-all g c =
    let task = parts_of c.args.jobs.now c.args.task.now in
    ap (λ (s : SendingEnd Note). s.sent) c.send.ensures
    ∙ upto_end task c.sender-planner.result (outlet_of c.loop-number.outlet).sent c.loop-number.count c.loop-number.number
    c.loop-number.invariant.3 (omega (arith, length-timings_of c.args.jobs.now, c.len-number-end.ensures.len))
    c.loop-number.invariant.0
    ∙ ap (all_notes task) c.sender-planner.ensures
