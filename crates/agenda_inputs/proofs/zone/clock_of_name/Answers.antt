use Rattle.std.proofs.Common.{inl, refl}
use Rattle.agenda_faults.specs.declared.faults.RunFault.TheVariants as run
use Rattle.agenda_faults.specs.declared.faults.Failure.TheVariants.{Run}
use Rattle.agenda_inputs.specs.Steps.{goes}
use Rattle.agenda_inputs.proofs.StepLemmas.{failed}
use Rattle.agenda_inputs.proofs.zone.clock_of_name.Goals as goal

pub returns-in_err-path-clause-read : goal.returns-in_err-path-clause-read
returns-in_err-path-clause-read g c = failed _ (Run run.NoMemory) (inl refl) c.from_residual.ensures.1

pub returns-in_err-bytes-clause-read : goal.returns-in_err-bytes-clause-read
returns-in_err-bytes-clause-read g c =
    failed _ _ (rw (c.as_str.ensures, c.in_ok-path.ensures) at c.in_err-bytes.ensures.read) c.from_residual-in_err-bytes.ensures.1

pub returns-clause-read : goal.returns-clause-read
returns-clause-read g c =
    goes _ (rw (c.as_str.ensures, c.in_ok-path.ensures) at c.in_ok-bytes.ensures.read) (rw c.as_slice.ensures at c.clock_of_bytes.ensures)

pub returns-clause-opens : goal.returns-clause-opens
returns-clause-opens g c = λ other. rw (c.as_str.ensures, c.in_ok-path.ensures) at c.in_ok-bytes.ensures.opens
