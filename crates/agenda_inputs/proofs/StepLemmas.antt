-- Steps one after another: for the functions that pass on the failures of others by `?`.
use Rattle.std.proofs.Common.{◌≡◌, Result, Ok, Err, refl, subst, sym}
use Rattle.std.specs.Result.{IsErrAnd}
use Rattle.agenda_faults.specs.declared.faults.Failure.{Failure}
use Rattle.agenda_faults.specs.declared.faults.Failure.TheVariants.{Run}
use Rattle.agenda_faults.specs.declared.faults.RunFault.TheVariants as run
use Rattle.agenda_inputs.specs.Steps.{Step, ◌>>=◌, computes, stops}

-- a failure was passed on
pub passed_on :
    {X : Type 0} (step : Step X) (result : Result X Failure) (failure : Failure) → step (Err failure) →
    IsErrAnd result (λ found. found ≡ failure) → step result
passed_on step (Ok x) failure is passed = absurd passed
passed_on step (Err found) failure is passed = subst (λ f. step (Err f)) (sym passed) is

-- the first step failed, and its failure was passed on
pub failed :
    {X Y : Type 0} {step : Step X} {next : X → Step Y} (result : Result Y Failure) (failure : Failure) → step (Err failure) →
    IsErrAnd result (λ found. found ≡ failure) → (step >>= next) result
failed {step = step} {next = next} result failure is passed = passed_on (step >>= next) result failure (stops failure is refl) passed

-- an allocation failed before a value was computed
pub not_computed :
    {X : Type 0} (x : X) (result : Result X Failure) → IsErrAnd result (λ found. found ≡ Run run.NoMemory) → computes x result
not_computed x (Ok y) passed = absurd passed
not_computed x (Err found) passed = passed
