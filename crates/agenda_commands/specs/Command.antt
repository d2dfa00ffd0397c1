-- What a command writes, and its errors, without the stream. All of it is our choice (agenda).
use Rattle.std.specs.Prelude.{◌≡◌, ◌≢◌, ℕ, Bool, List, Option, Result, Ok, Err}
use Rattle.std.specs.Io.KnownBytes.{Appends, Keeps}
use Rattle.std.specs.Result.{result_map_both}
use Rattle.agenda_faults.specs.declared.faults.RunFault.{RunFault}
use Rattle.agenda_faults.specs.declared.faults.RunFault.TheVariants.{Device, NoMemory}
use Rattle.plan_streams.specs.Stream.{BreaksOff}

-- a text of the command was written
abbrev pub Writes : (List ℕ → Type 0) → (old new : Option (List ℕ)) → Type 0
Writes IsText old new = (text : List ℕ) × IsText text × Appends old new text

-- what was written after an error: a first part of a text if the stream failed, and otherwise nothing
abbrev pub Fails :
    Bool → (List ℕ → Type 0) → (RunFault → Type 0) → RunFault → (old new : Option (List ℕ)) → Type 0
Fails takes_all IsText IsError (Device stream) old new = (text : List ℕ) × IsText text × BreaksOff takes_all old new text
Fails takes_all IsText IsError fault old new = IsError fault × Keeps old new

-- a step of a command, with an error that is one of the command's
abbrev pub step : {A E : Type 0} → (E → RunFault) → Result A E → Result A RunFault
step fault_of answer = result_map_both (λ x. x) fault_of answer

-- the output of a command is its text or its first error: this is the text
abbrev pub IsTextOf : Result (List ℕ) RunFault → List ℕ → Type 0
IsTextOf output text = output ≡ Ok text

-- this is the error, unless an allocation failed
abbrev pub IsFaultOf : Result (List ℕ) RunFault → RunFault → Type 0
IsFaultOf output fault = fault ≢ NoMemory → output ≡ Err fault

-- a command with this output ended: it wrote the text, or it failed
abbrev pub Outputs : {A : Type 0} → Bool → Result (List ℕ) RunFault → Result A RunFault → (old new : Option (List ℕ)) → Type 0
Outputs takes_all output (Ok done) old new = Writes (IsTextOf output) old new
Outputs takes_all output (Err fault) old new = Fails takes_all (IsTextOf output) (IsFaultOf output) fault old new

-- a command with an answer like this ended: it wrote the text, or it failed. Any answer is possible if an allocation failed
abbrev pub OutputsAnswer :
    {A : Type 0} → Bool → (Result (List ℕ) RunFault → Type 0) → Result A RunFault → (old new : Option (List ℕ)) → Type 0
OutputsAnswer takes_all Answers (Ok done) old new = Writes (λ text. Answers (Ok text)) old new
OutputsAnswer takes_all Answers (Err fault) old new =
    Fails takes_all (λ text. Answers (Ok text)) (λ found. found ≢ NoMemory → Answers (Err found)) fault old new
