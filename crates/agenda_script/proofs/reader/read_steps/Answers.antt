-- Answers the one clause of `read_steps`, if a line is invalid and at the end.
-- The loop's invariant: the lines so far were read as the steps so far, and the next line has the number after
-- them (`AreRead`). A turn reads one more line. The error of a line is the error of all lines (`fault_read`).
use Rattle.std.proofs.Common.{◌+◌, sym, subst, arith}
use Rattle.std.proofs.lemmas.Result.{err_from_is_err_and}
use Rattle.agenda_script.proofs.ScriptLemmas.{AreRead, texts, line_is, inside_texts, past_texts, one_more_read, fault_read, all_read}
use Rattle.agenda_script.proofs.reader.read_steps.Goals as goal

pub returns-in_err-step : goal.returns-in_err-step
returns-in_err-step c =
    let p = err_from_is_err_and c.from_residual.result c.from_residual.ensures.1 in
    let lines = c.args.lines.now in
    let k = c.loop-line.line-index in
    let line = c.as_bytes.result.now in
    rw (p.1, p.2)
    (λ kept. fault_read (texts lines) k c.loop-line.number line c.loop-line.steps.items c.in_err-step.field-0.0
    (inside_texts lines k c.loop-line-test.true)
    (line_is lines k line _ c.loop-line-test.true c.as_bytes.ensures.value) c.loop-line.invariant.place c.loop-line.invariant.read
    (sym c.in_err-step.ensures.reading))

pub loop-line-preserved : goal.loop-line-preserved
loop-line-preserved c =
    let lines = c.args.lines.now in
    let k = c.loop-line.line-index in
    let line = c.as_bytes.result.now in
    record {
      read = subst (AreRead (texts lines) (k + 1)) (sym c.in_ok-push.ensures.items)
          (one_more_read (texts lines) k c.loop-line.number line c.loop-line.steps.items c.in_ok-step.step
          (inside_texts lines k c.loop-line-test.true)
          (line_is lines k line _ c.loop-line-test.true c.as_bytes.ensures.value) c.loop-line.invariant.place
          c.loop-line.invariant.read (sym c.in_ok-step.ensures.reading));
      place = omega arith;
      few = omega (arith, c.in_ok-step.ensures.few);
    }

pub returns : goal.returns
returns c =
    all_read (texts c.args.lines.now) c.loop-line.line-index c.loop-line.steps.items
    (past_texts c.args.lines.now c.loop-line.line-index c.loop-line-test.false) c.loop-line.invariant.read
