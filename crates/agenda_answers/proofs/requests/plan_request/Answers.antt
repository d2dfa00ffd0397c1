use Rattle.std.proofs.Common.{refl}
use Rattle.agenda_inputs.specs.Steps.{goes}
use Rattle.agenda_inputs.proofs.StepLemmas.{failed}
use Rattle.agenda_answers.proofs.requests.plan_request.Goals as goal

pub returns-in_err-planning : goal.returns-in_err-planning
returns-in_err-planning c = failed _ _ c.in_err-planning.ensures c.from_residual.ensures.1

pub returns : goal.returns
returns c = goes c.in_ok-planning.planning c.in_ok-planning.ensures refl
