use Rattle.std.proofs.Common.{inl, refl}
use Rattle.agenda_faults.specs.declared.faults.RunFault.TheVariants as run
use Rattle.agenda_faults.specs.declared.faults.Failure.TheVariants.{Run}
use Rattle.agenda_inputs.specs.Steps.{goes}
use Rattle.agenda_inputs.proofs.StepLemmas.{failed}
use Rattle.agenda_inputs.proofs.sources.read_source.Goals as goal

pub returns-in_err-bytes-clause-read : goal.returns-in_err-bytes-clause-read
returns-in_err-bytes-clause-read g c = failed _ _ (rw c.as_str.ensures at c.in_err-bytes.ensures.read) c.from_residual.ensures.1

pub returns-in_err-from_str-clause-read : goal.returns-in_err-from_str-clause-read
returns-in_err-from_str-clause-read g c = failed _ (Run run.NoMemory) (inl refl) c.from_residual-in_err-from_str.ensures.1

pub returns-clause-read : goal.returns-clause-read
returns-clause-read g c =
    goes _ (rw c.as_str.ensures at c.in_ok-bytes.ensures.read)
    (rw (c.new-name.ensures, c.in_ok-from_str.ensures.ok, c.name_by.ensures, c.file_name.ensures, c.as_str-2.ensures) refl)
