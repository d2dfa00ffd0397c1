use Rattle.agenda_inputs.specs.Steps.{goes}
use Rattle.agenda_inputs.proofs.StepLemmas.{failed, not_computed}
use Rattle.agenda_answers.proofs.changes.changes_goal.Goals as goal

pub returns-in_err-before-clause-read : goal.returns-in_err-before-clause-read
returns-in_err-before-clause-read g c =
    failed _ _ (rw c.as_str.ensures at c.in_err-before.ensures.read) c.from_residual.ensures.1

pub returns-in_err-goal-clause-read : goal.returns-in_err-goal-clause-read
returns-in_err-goal-clause-read g c =
    goes _ (rw c.as_str.ensures at c.in_ok-before.ensures.read) (not_computed _ _ c.from_residual-in_err-goal.ensures.1)

pub returns-clause-read : goal.returns-clause-read
returns-clause-read g c = goes _ (rw c.as_str.ensures at c.in_ok-before.ensures.read) c.in_ok-goal.ensures
