use Rattle.std.proofs.Common.{refl}
use Rattle.agenda_inputs.specs.Steps.{goes}
use Rattle.agenda_inputs.proofs.StepLemmas.{failed}
use Rattle.agenda_answers.proofs.requests.starts_request.Goals as goal

pub returns-in_err-after : goal.returns-in_err-after
returns-in_err-after c = failed _ _ c.in_err-after.ensures c.from_residual.ensures.1

pub returns : goal.returns
returns c = goes c.in_ok-after.after c.in_ok-after.ensures (rw c.from.ensures refl)
