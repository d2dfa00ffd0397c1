use Rattle.std.proofs.Common.{refl}
use Rattle.agenda_inputs.specs.Steps.{goes}
use Rattle.agenda_inputs.proofs.StepLemmas.{failed}
use Rattle.agenda_answers.proofs.requests.planning_of.Goals as goal

pub returns-in_err-span : goal.returns-in_err-span
returns-in_err-span c = failed _ _ c.in_err-span.ensures c.from_residual.ensures.1

pub returns : goal.returns
returns c = goes c.in_ok-span.span c.in_ok-span.ensures refl
