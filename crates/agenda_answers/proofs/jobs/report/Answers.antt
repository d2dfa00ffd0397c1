use Rattle.agenda_answers.proofs.OutcomeLemmas.{reported_off}
use Rattle.agenda_answers.proofs.jobs.report.Goals as goal

pub returns-then-is_err-clause-answers : goal.returns-then-is_err-clause-answers
returns-then-is_err-clause-answers g c =
    rw (← c.outcome.view_is) (reported_off _ _ c.write_skipped.result c.is_err.result _ _ _ _ _ c.is_err.ensures.value c.if-is_err.true
    (rw (c.as_slice-unread.ensures, c.as_slice.ensures, c.as_slice-errors.ensures.value) at c.write_skipped.ensures.text)
    (rw (c.as_slice-unread.ensures, c.as_slice-errors.ensures.value) at c.write_skipped.ensures.spared))
