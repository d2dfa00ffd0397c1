-- Steps one after another, and what they leave on a stream: for the functions that pass on the failures of others by `?`.
use Rattle.std.proofs.Common.{◌≡◌, ℕ, Bool, List, Option, Result, Ok, Err, IfErr, OnOk, refl}
use Rattle.std.specs.Result.{IsErrAnd}
use Rattle.std.proofs.KnownBytes.{Keeps-refl}
use Rattle.agenda_commands.specs.Command.{Fails, IsFaultOf, IsTextOf, Outputs, OutputsAnswer, Writes}
use Rattle.agenda_faults.specs.declared.faults.Failure.{Failure}
use Rattle.agenda_faults.specs.declared.faults.Failure.TheVariants.{Run}
use Rattle.agenda_faults.specs.declared.faults.RunFault.{RunFault}
use Rattle.agenda_faults.specs.declared.faults.RunFault.TheVariants as run
use Rattle.agenda_answers.specs.Answer.{Leaves, Printed, answers_if, outputs, outputs_if, prints, status_after}
use Rattle.agenda_inputs.specs.Steps.{Step, ◌>>=◌, stops, goes}

-- the first step failed, and its failure was passed on
pub failed_first :
    {X : Type 0} {step : Step X} {next : X → Step Printed} {takes_all : Bool} (result : Result ℕ Failure) (failure : Failure)
    (kept : Option (List ℕ)) → step (Err failure) → IsErrAnd result (λ found. found ≡ failure) →
    Leaves takes_all (step >>= next) result kept kept
failed_first (Ok status) failure kept is passed = absurd passed
failed_first (Err found) failure kept is passed =
    record { end = Err failure; ends = stops failure is refl; puts = (passed, Keeps-refl kept) }

pub went_on :
    {X : Type 0} {step : Step X} {next : X → Step Printed} {takes_all : Bool} {done : Result ℕ Failure} {old new : Option (List ℕ)}
    (x : X) → step (Ok x) → Leaves takes_all (next x) done old new → Leaves takes_all (step >>= next) done old new
went_on x is left = record { end = left.end; ends = goes x is left.ends; puts = left.puts }

-- a command printed a text
pub printed :
    (P : List ℕ → Type 0) (R : RunFault → Type 0) (takes_all : Bool) (status : ℕ) (old new : Option (List ℕ)) → Writes P old new →
    Leaves takes_all (prints status P R) (Ok status) old new
printed P R takes_all status old new (text, is, appends) =
    record { end = Ok (record { text = text; status = status }); ends = (is, refl); puts = (refl, appends) }

-- a command failed, and its error was passed on
pub stopped :
    (P : List ℕ → Type 0) (R : RunFault → Type 0) (takes_all : Bool) (status : ℕ) (result : Result ℕ Failure) (fault : RunFault)
    (old new : Option (List ℕ)) → Fails takes_all P R fault old new → IsErrAnd result (λ found. found ≡ Run fault) →
    Leaves takes_all (prints status P R) result old new
stopped P R takes_all status (Ok done) fault old new fails passed = absurd passed
stopped P R takes_all status (Err found) (run.Device stream) old new (text, is, off) passed =
    record { end = Ok (record { text = text; status = status }); ends = (is, refl); puts = (stream, passed, off) }
stopped P R takes_all status (Err found) other old new fails passed =
    record { end = Err (Run other); ends = fails.0; puts = (passed, fails.1) }

-- a command ended, whose failure is passed on
pub ran_by :
    {A : Type 0} (P : List ℕ → Type 0) (R : RunFault → Type 0) (takes_all : Bool) (run : Result A RunFault) (old new : Option (List ℕ)) →
    OnOk run (Writes P old new) → IfErr run (λ fault. Fails takes_all P R fault old new) →
    Leaves takes_all (prints 0 P R) (status_after run) old new
ran_by P R takes_all (Ok done) old new wrote failed = printed P R takes_all 0 old new wrote
ran_by P R takes_all (Err fault) old new wrote failed = stopped P R takes_all 0 _ fault old new failed refl

-- the same by the output of the command
pub ran :
    {A : Type 0} (output : Result (List ℕ) RunFault) (takes_all : Bool) (run : Result A RunFault) (old new : Option (List ℕ)) →
    Outputs takes_all output run old new → Leaves takes_all (outputs 0 output) (status_after run) old new
ran output takes_all (Ok done) old new wrote = printed (IsTextOf output) (IsFaultOf output) takes_all 0 old new wrote
ran output takes_all (Err fault) old new failed =
    stopped (IsTextOf output) (IsFaultOf output) takes_all 0 _ fault old new failed refl

-- an error in a number is that of a command which checks the number first
same_error :
    {A : Type 0} (number : Result ℕ RunFault) (fault : RunFault) (done : Result A RunFault) → done ≡ Err fault →
    IfErr number (λ found. done ≡ Err found) → IfErr number (λ found. fault ≡ found)
same_error (Ok n) fault done is same = tt
same_error (Err found) fault done is same = cc

-- the same of a command that checks a number first, by what answers it
pub answered_if :
    {A : Type 0} (number : Result ℕ RunFault) (Answers : Result (List ℕ) RunFault → Type 0) (takes_all : Bool) (run : Result A RunFault)
    (old new : Option (List ℕ)) → OutputsAnswer takes_all Answers run old new → IfErr number (λ found. run ≡ Err found) →
    Leaves takes_all (answers_if number Answers) (status_after run) old new
answered_if number Answers takes_all (Ok done) old new wrote bad = printed (λ text. Answers (Ok text)) _ takes_all 0 old new wrote
answered_if number Answers takes_all (Err (run.Device stream)) old new (text, is, off) bad =
    record { end = Ok (record { text = text; status = 0 }); ends = (is, refl); puts = (stream, refl, off) }
answered_if number Answers takes_all (Err other) old new failed bad =
    record { end = Err (Run other); ends = (failed.0, same_error number other _ refl bad); puts = (refl, failed.1) }

-- the same by its output
pub ran_if :
    {A : Type 0} (number : Result ℕ RunFault) (output : Result (List ℕ) RunFault) (takes_all : Bool) (run : Result A RunFault)
    (old new : Option (List ℕ)) → Outputs takes_all output run old new → IfErr number (λ found. run ≡ Err found) →
    Leaves takes_all (outputs_if number output) (status_after run) old new
ran_if number output takes_all (Ok done) old new wrote bad =
    answered_if number (λ answer. output ≡ answer) takes_all (Ok done) old new wrote bad
ran_if number output takes_all (Err fault) old new failed bad =
    answered_if number (λ answer. output ≡ answer) takes_all (Err fault) old new failed bad

-- what holds after success holds after the status
pub flushed_after : {A : Type 0} (P : Type 0) (run : Result A RunFault) → OnOk run P → OnOk (status_after run) P
flushed_after P (Ok done) is = is
flushed_after P (Err fault) is = tt
