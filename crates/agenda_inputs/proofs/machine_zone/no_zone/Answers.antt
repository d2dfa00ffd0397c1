use Rattle.std.proofs.Common.{◌≡◌, inl, inr, Result, Ok, Err, refl}
use Rattle.std.specs.Result.{IsErrAnd}
use Rattle.agenda_faults.specs.declared.faults.Failure.{Failure}
use Rattle.agenda_faults.specs.declared.faults.Failure.TheVariants.{Run}
use Rattle.agenda_faults.specs.declared.faults.RunFault.TheVariants as run
use Rattle.agenda_inputs.specs.MachineZone.{fails_with}
use Rattle.agenda_inputs.specs.Steps.{goes}
use Rattle.agenda_inputs.proofs.StepLemmas.{failed}
use Rattle.agenda_inputs.proofs.machine_zone.no_zone.Goals as goal

-- an allocation failed before the failure was made
not_named :
    {X : Type 0} (failure : Failure) (end : Result X Failure) → IsErrAnd end (λ found. found ≡ Run run.NoMemory) →
    fails_with failure end
not_named failure (Ok x) passed = absurd passed
not_named failure (Err found) passed = inr passed

pub returns-in_err-like-clause-read : goal.returns-in_err-like-clause-read
returns-in_err-like-clause-read g c = failed _ _ c.in_err-like.ensures.read c.from_residual.ensures.1

pub returns-in_err-text-clause-read : goal.returns-in_err-text-clause-read
returns-in_err-text-clause-read g c =
    goes _ c.in_ok-like.ensures.read (not_named _ _ c.from_residual-in_err-text.ensures.1)

pub returns-clause-read : goal.returns-clause-read
returns-clause-read g c = goes _ c.in_ok-like.ensures.read (rw c.in_ok-text.ensures (inl refl))
