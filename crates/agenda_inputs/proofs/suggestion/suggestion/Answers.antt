use Rattle.std.proofs.Common.{None, Some, option_map, refl}
use Rattle.agenda_faults.specs.declared.faults.Failure.TheVariants.{Run}
use Rattle.agenda_faults.specs.declared.faults.RunFault.TheVariants as run
use Rattle.agenda_inputs.specs.Steps.{goes}
use Rattle.agenda_inputs.proofs.StepLemmas.{failed}
use Rattle.agenda_inputs.proofs.suggestion.suggestion.Goals as goal

pub returns-in_err-bytes-clause-read : goal.returns-in_err-bytes-clause-read
returns-in_err-bytes-clause-read g c = failed _ _ c.in_err-bytes.ensures.read c.from_residual.ensures.1

pub returns-in_default-clause-read : goal.returns-in_default-clause-read
returns-in_default-clause-read g c =
    goes None (rw c.in_default.is at c.in_ok-bytes.ensures.read) (goes None refl refl)

pub returns-in_err-name-clause-read : goal.returns-in_err-name-clause-read
returns-in_err-name-clause-read g c =
    goes (Some c.in-Some.bytes) (rw c.in-Some.is at c.in_ok-bytes.ensures.read)
    (failed _ (Run run.NoMemory) refl c.from_residual-in_err-name.ensures.1)

pub returns-clause-read : goal.returns-clause-read
returns-clause-read g c =
    goes (Some c.in-Some.bytes) (rw c.in-Some.is at c.in_ok-bytes.ensures.read)
    (goes (option_map (λ name. name.now) c.in_ok-name.name) (rw c.as_slice.ensures at c.in_ok-name.ensures)
    (rw c.in_ok-bytes.ensures.same at c.usable.ensures.read))
