use Rattle.agenda_answers.proofs.StepLemmas.{failed_first, flushed_after, ran, went_on}
use Rattle.agenda_answers.proofs.describe.describe.Goals as goal

pub returns-in_err-zones-clause-ends : goal.returns-in_err-zones-clause-ends
returns-in_err-zones-clause-ends g c = failed_first _ _ _ c.in_err-zones.ensures.read c.from_residual.ensures.1

pub returns-clause-ends : goal.returns-clause-ends
returns-clause-ends g c =
    rw c.status_after.ensures (went_on _ c.in_ok-zones.ensures.read (ran _ _ _ _ _ c.run_describe.ensures.output))

pub returns-clause-flushed : goal.returns-clause-flushed
returns-clause-flushed g c = rw c.status_after.ensures (flushed_after _ c.run_describe.result c.run_describe.ensures.flushed)
