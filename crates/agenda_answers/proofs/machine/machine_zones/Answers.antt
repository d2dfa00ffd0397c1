use Rattle.std.proofs.Common.{refl}
use Rattle.agenda_faults.specs.declared.faults.Failure.TheVariants.{Run}
use Rattle.agenda_faults.specs.declared.faults.RunFault.TheVariants as run
use Rattle.agenda_answers.specs.Machine.{machine_zones}
use Rattle.agenda_inputs.specs.Steps.{goes}
use Rattle.agenda_inputs.proofs.StepLemmas.{failed}
use Rattle.agenda_answers.proofs.machine.machine_zones.Goals as goal

pub returns-in_err-accuracy : goal.returns-in_err-accuracy
unfolding machine_zones
returns-in_err-accuracy g c = failed _ (Run run.NoMemory) refl c.from_residual.ensures.1

pub returns-in_err-names : goal.returns-in_err-names
unfolding machine_zones
returns-in_err-names g c =
    goes _ c.in_ok-accuracy.ensures (failed _ (Run run.NoMemory) refl c.from_residual-in_err-names.ensures.1)

pub returns-in_err-zones : goal.returns-in_err-zones
unfolding machine_zones
returns-in_err-zones g c =
    goes _ c.in_ok-accuracy.ensures (goes _ c.in_ok-names.ensures
    (failed _ _ c.in_err-zones.ensures.read c.from_residual-in_err-zones.ensures.1))

pub returns : goal.returns
unfolding machine_zones
returns g c =
    goes _ c.in_ok-accuracy.ensures (goes _ c.in_ok-names.ensures (goes _ c.in_ok-zones.ensures.read refl))
