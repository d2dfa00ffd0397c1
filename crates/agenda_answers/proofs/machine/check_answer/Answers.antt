use Rattle.std.proofs.Common.{refl}
use Rattle.agenda_faults.specs.declared.faults.Failure.TheVariants.{Run}
use Rattle.agenda_faults.specs.declared.faults.RunFault.TheVariants as run
use Rattle.agenda_inputs.specs.Steps.{goes}
use Rattle.agenda_answers.proofs.MachineLemmas.{no_accuracy}
use Rattle.agenda_inputs.proofs.StepLemmas.{not_computed}
use Rattle.agenda_inputs.proofs.StepLemmas.{failed}
use Rattle.agenda_answers.proofs.machine.check_answer.Goals as goal

pub returns-in_err-clock : goal.returns-in_err-clock
returns-in_err-clock g c = failed _ _ c.in_err-clock.ensures.read c.from_residual.ensures.1

pub returns-in_err-sources : goal.returns-in_err-sources
returns-in_err-sources g c =
    goes _ c.in_ok-clock.ensures.read
    (failed _ (Run run.NoMemory) (no_accuracy _ _ _ _) c.from_residual-in_err-sources.ensures.1)

pub returns-in_err-zones : goal.returns-in_err-zones
returns-in_err-zones g c =
    goes _ c.in_ok-clock.ensures.read
    (failed _ _ (rw (c.in_ok-clock.ensures.same, c.in_ok-sources.ensures, c.as_slice.ensures.value) at c.in_err-zones.ensures)
    c.from_residual-in_err-zones.ensures.1)

pub returns-in_err-printout : goal.returns-in_err-printout
returns-in_err-printout g c =
    goes _ c.in_ok-clock.ensures.read
    (goes _ (rw (c.in_ok-clock.ensures.same, c.in_ok-sources.ensures, c.as_slice.ensures.value) at c.in_ok-zones.ensures)
    (not_computed _ _ c.from_residual-in_err-printout.ensures.1))

pub returns : goal.returns
returns g c =
    goes _ c.in_ok-clock.ensures.read
    (goes _ (rw (c.in_ok-clock.ensures.same, c.in_ok-sources.ensures, c.as_slice.ensures.value) at c.in_ok-zones.ensures)
    (rw (c.in_ok-printout.ensures, c.in_ok-sources.ensures, c.as_slice.ensures.value) refl))
