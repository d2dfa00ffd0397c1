use Rattle.agenda_answers.proofs.StepLemmas.{failed_first, printed, stopped, went_on}
use Rattle.agenda_answers.proofs.answers.check.Goals as goal

pub returns-in_err-tried-clause-ends : goal.returns-in_err-tried-clause-ends
returns-in_err-tried-clause-ends g c = failed_first _ _ _ c.in_err-tried.ensures.read c.from_residual.ensures.1

pub returns-in_err-checked-clause-ends : goal.returns-in_err-checked-clause-ends
returns-in_err-checked-clause-ends g c =
    went_on _ c.in_ok-tried.ensures.read
    (stopped _ _ _ _ _ _ _ _ (rw c.as_slice.ensures at c.in_err-checked.ensures.output)
    c.from_residual-in_err-checked.ensures.1)

pub returns-clause-ends : goal.returns-clause-ends
returns-clause-ends g c =
    went_on _ c.in_ok-tried.ensures.read
    (rw (c.status_on.ensures, c.in_ok-checked.ensures.checked)
    (printed _ _ _ _ _ _ (rw c.as_slice.ensures at c.in_ok-checked.ensures.output)))
