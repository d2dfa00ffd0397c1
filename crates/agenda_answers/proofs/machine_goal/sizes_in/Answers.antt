use Rattle.std.proofs.Common.{refl}
use Rattle.agenda_inputs.specs.Steps.{goes}
use Rattle.agenda_inputs.proofs.StepLemmas.{failed}
use Rattle.agenda_answers.proofs.machine_goal.sizes_in.Goals as goal

pub returns-in_err-number_in : goal.returns-in_err-number_in
returns-in_err-number_in c = failed _ _ c.in_err-number_in.ensures c.from_residual.ensures.1

pub returns-in_err-number_in-2 : goal.returns-in_err-number_in-2
returns-in_err-number_in-2 c =
    goes _ c.in_ok-number_in.ensures (failed _ _ c.in_err-number_in-2.ensures c.from_residual-in_err-number_in-2.ensures.1)

pub returns-in_err-number_in-3 : goal.returns-in_err-number_in-3
returns-in_err-number_in-3 c =
    goes _ c.in_ok-number_in.ensures (goes _ c.in_ok-number_in-2.ensures
    (failed _ _ c.in_err-number_in-3.ensures c.from_residual-in_err-number_in-3.ensures.1))

pub returns : goal.returns
returns c = goes _ c.in_ok-number_in.ensures (goes _ c.in_ok-number_in-2.ensures (goes _ c.in_ok-number_in-3.ensures refl))
