use Rattle.agenda_inputs.specs.Steps.{goes}
use Rattle.agenda_inputs.proofs.StepLemmas.{failed}
use Rattle.agenda_answers.proofs.machine_goal.after_at.Goals as goal

pub returns-in_err-now : goal.returns-in_err-now
returns-in_err-now c = failed _ _ c.in_err-now.ensures.value c.from_residual.ensures.1

pub returns : goal.returns
returns c = goes c.in_ok-now.now c.in_ok-now.ensures.value c.since_at.ensures.read
