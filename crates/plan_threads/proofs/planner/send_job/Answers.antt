-- For the loop of `send_job` and its `all`. The piece that was sent is the first of the remaining pieces (`IsNext`). If
-- it ends before the span does, and the limit isn't exceeded, the others remain (`sent_on`). Otherwise nothing of the job
-- remains, whichever of the two tests stopped the loop (`sent_all`).
use Rattle.std.proofs.Common.{◌<◌, ◌≤◌, ◌+◌, ◌⊎◌, length, inl, inr, ap, ◌∙◌, arith}
use Rattle.plan_collect.specs.declared.note.Note.{Note}
use Rattle.plan_collect.specs.Windows.{first_second}
use Rattle.plan_mailbox.specs.Ends.{SendingEnd, outlet_of}
use Rattle.plan_threads.proofs.SendingLemmas.{IsNext, sent_all, sent_on}
use Rattle.plan_threads.proofs.planner.send_job.Goals as goal
use Rattle.plan_threads.proofs.planner.send_job.Goals.{then-reached-task-via-then-reached-task, then-reached-task-via-else-reached-task+then-since-upto}

pub returns-then-reached-task-clause-all : goal.returns-then-reached-task-clause-all
returns-then-reached-task-clause-all g c =
    let rule = c.args.job.now.rule in
    let span = c.args.task.now.span in
    let so_far = c.loop-piece.invariant in
    let sent = (outlet_of c.loop-piece.outlet).sent in
    let new = (outlet_of c.send.new.outlet).sent in
    let next : IsNext c.args.number rule c.loop-piece.since span.upto sent new c.in_ok-piece.piece c.upto-since.result
    (length c.starts.result.now) = record {
      new_is = ap (λ (s : SendingEnd Note). s.sent) c.send.ensures;
      piece_is = cc (c.in_ok-piece.ensures.piece, c.rule.ensures, c.upto-upto.ensures.value);
      end_is = c.upto-since.ensures.value;
      brought_is = ap length c.starts.ensures;
    } in
    let stop : (c.args.task.now.sizes.limit < c.loop-piece.reached + length c.starts.result.now) ⊎
    (span.upto ≤ c.upto-since.result) =
    elim c.then-reached-task.branch [
      | then-reached-task-via-then-reached-task w ↦ inl w.if-reached-task.true
      | then-reached-task-via-else-reached-task+then-since-upto w ↦ inr (omega (arith, c.upto-upto.ensures.value, w.if-since-upto.true))
    ] in
    sent_all c.args.task.now.sizes.limit c.args.count c.args.number rule (first_second span c.args.job.now.delay) span.upto
    (outlet_of c.args.outlet.now).sent sent new
    c.loop-piece.reached c.loop-piece.since c.upto-since.result (length c.starts.result.now) c.in_ok-piece.piece
    so_far.4 so_far.0 so_far.1 next stop

pub loop-piece-preserved : goal.loop-piece-preserved
loop-piece-preserved g c =
    let rule = c.args.job.now.rule in
    let span = c.args.task.now.span in
    let so_far = c.loop-piece.invariant in
    let sent = (outlet_of c.loop-piece.outlet).sent in
    let new = (outlet_of c.send.new.outlet).sent in
    let next : IsNext c.args.number rule c.loop-piece.since span.upto sent new c.in_ok-piece.piece c.upto-since.result
    (length c.starts.result.now) = record {
      new_is = ap (λ (s : SendingEnd Note). s.sent) c.send.ensures;
      piece_is = cc (c.in_ok-piece.ensures.piece, c.rule.ensures, c.upto-upto.ensures.value);
      end_is = c.upto-since.ensures.value;
      brought_is = ap length c.starts.ensures;
    } in
    let more : c.upto-since.result < span.upto = omega (arith, c.upto-upto.ensures.value, c.if-since-upto.false) in (
      omega arith,
      c.if-reached-task.false,
      ap (λ (s : SendingEnd Note). s.sender) c.send.ensures ∙ so_far.2,
      ap (λ (s : SendingEnd Note). s.ring) c.send.ensures ∙ so_far.3,
      sent_on c.args.task.now.sizes.limit c.args.count c.args.number rule (first_second span c.args.job.now.delay) span.upto
          (outlet_of c.args.outlet.now).sent sent new
          c.loop-piece.reached c.loop-piece.since c.upto-since.result (length c.starts.result.now) c.in_ok-piece.piece
          so_far.4 so_far.0 so_far.1 next more,
    )
