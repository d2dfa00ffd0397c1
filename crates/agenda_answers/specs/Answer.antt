-- What commands print, and what both streams hold after them. All of it is our choice (agenda).
use Rattle.std.specs.Prelude.{◌≡◌, ◌≢◌, ⊤, ℕ, Bool, false, List, codes, Option, Result, Ok, Err, IfErr}
use Rattle.std.specs.Io.KnownBytes.{Appends, Keeps}
use Rattle.agenda_codes.specs.declared.Code.{Code}
use Rattle.agenda_arguments.specs.declared.ZonesRequest.{ZonesRequest}
use Rattle.agenda_arguments.specs.declared.UsageFault.{UsageFault}
use Rattle.agenda_arguments.specs.declared.UsageFault.TheVariants as usage
use Rattle.agenda_faults.specs.declared.faults.RunFault.{RunFault}
use Rattle.agenda_faults.specs.declared.faults.RunFault.TheVariants as run
use Rattle.agenda_faults.specs.declared.faults.Failure.{Failure}
use Rattle.agenda_faults.specs.declared.faults.Failure.TheVariants.{Usage, Run, File}
use Rattle.agenda_policy.specs.declared.Policy.{Policy}
use Rattle.agenda_sources.specs.declared.SourcePath.{SourcePath}
use Rattle.agenda_faults.specs.FaultLines.{fault_text}
use Rattle.agenda_faults.specs.Faults.{status_of}
use Rattle.agenda_faults.specs.Status.{done_status, rejected_status}
use Rattle.agenda_answers.specs.declared.requests.StartsRequest.{StartsRequest}
use Rattle.agenda_inputs.specs.Files.{Held, whole_of}
use Rattle.agenda_answers.specs.Formats.{format_made, utc_name}
use Rattle.agenda_inputs.specs.Sources.{input_of, rule_zones}
use Rattle.agenda_inputs.specs.Steps.{Step, fails, gives, ◌>>=◌}
use Rattle.agenda_commands.specs.declared.Checked.{Checked}
use Rattle.agenda_commands.specs.declared.Checked.TheVariants.{WithoutErrors, WithErrors}
use Rattle.agenda_commands.specs.Check.{check_output, sources_checked}
use Rattle.agenda_commands.specs.Command.{IsFaultOf, IsTextOf}
use Rattle.agenda_commands.specs.Explain.{explain_output}
use Rattle.agenda_commands.specs.Next.{next_output, valid_count}
use Rattle.agenda_commands.specs.Script.{IsTextOfRun, RejectsRun}
use Rattle.plan_streams.specs.Stream.{BreaksOff, PutsOrBreaksOff}
use Rattle.plan_streams.specs.declared.WriteFault.{WriteFault}

-- the text of usage if an argument isn't UTF-8, unless an allocation failed
abbrev pub SaysNotUtf8 : UsageFault → Type 0
SaysNotUtf8 usage.NoMemory = ⊤
SaysNotUtf8 (usage.Usage text) = text ≡ codes "a word of the command line is not UTF-8\n"
SaysNotUtf8 (usage.Help text) = ⊥

-- ---- commands

-- what is printed, and the exit status after it
pub record Printed : Type 0 where
  pub text : List ℕ
  pub status : ℕ

-- the last step of a request: a command prints a text, which has this status, or is rejected
abbrev pub prints : (status : ℕ) → (List ℕ → Type 0) → (RunFault → Type 0) → Step Printed
prints status IsText IsError (Ok printed) = IsText printed.text × (printed.status ≡ status)
prints status IsText IsError (Err (Run fault)) = IsError fault
prints status IsText IsError (Err other) = ⊥

-- the same by the output of the command, which is its text or its first error
abbrev pub outputs : (status : ℕ) → Result (List ℕ) RunFault → Step Printed
outputs status output = prints status (IsTextOf output) (IsFaultOf output)

-- the same for a command that checks a number before it requests memory, with the status of success
abbrev pub outputs_if : (number : Result ℕ RunFault) → Result (List ℕ) RunFault → Step Printed
outputs_if number output = prints done_status (IsTextOf output) (λ fault. IsFaultOf output fault × IfErr number (λ found. fault ≡ found))

-- the same by what answers the command: any answer is possible if an allocation failed
abbrev pub answers_if : (number : Result ℕ RunFault) → (Result (List ℕ) RunFault → Type 0) → Step Printed
answers_if number Answers =
    prints done_status (λ text. Answers (Ok text))
    (λ fault. (fault ≢ run.NoMemory → Answers (Err fault)) × IfErr number (λ found. fault ≡ found))

-- the exit status after a command that prints a text, or its failure
abbrev pub status_after : {A : Type 0} → Result A RunFault → Result ℕ Failure
status_after (Ok done) = Ok done_status
status_after (Err fault) = Err (Run fault)

-- `next`: the zones are read first, then the count and the rule
abbrev pub next_ends : Held → StartsRequest → Step Printed
next_ends held request = do
  zones ← rule_zones held request.zones request.rule
  format ← format_made request.format request.zones.zone utc_name zones.clock
  outputs_if (valid_count request.count) (next_output zones request.rule request.after request.count format)

-- the exit status of `check`
abbrev pub status_on : Checked → ℕ
status_on WithoutErrors = done_status
status_on WithErrors = rejected_status

-- `check`: the zone is read first, then the files and the zones of events; after that only an allocation can fail
abbrev pub check_ends : Held → ZonesRequest → List SourcePath → Policy → (json : Bool) → Step Printed
check_ends held zones paths policy json = do
  input ← input_of false held zones paths
  outputs (status_on (sources_checked policy input.1 input.0.sources)) (check_output policy input.1 paths input.0.sources json)

-- `steps`: the file is read first, then the script in it is run
abbrev pub steps_ends : Held → List ℕ → Step Printed
steps_ends held file = do
  script ← whole_of (held file) (File file)
  prints done_status (IsTextOfRun script) (RejectsRun script)

-- `explain`: no file is read
abbrev pub explain_ends : Option Code → Step Printed
explain_ends code = outputs done_status (explain_output code)

-- ---- the answer

-- arguments that request no command: help is printed, and invalid arguments are a failure by themselves
abbrev pub usage_ends : UsageFault → Step Printed
usage_ends (usage.Help help) = gives (record { text = help; status = done_status })
usage_ends (usage.Usage text) = fails (Usage text)
usage_ends usage.NoMemory = fails (Run run.NoMemory)

-- what standard output holds after a request: the whole text with its status, or its first bytes if the stream failed;
-- or what it held before, if the request failed
abbrev pub HoldsAfter : Bool → Result Printed Failure → Result ℕ Failure → (old new : Option (List ℕ)) → Type 0
HoldsAfter takes_all (Ok printed) (Ok status) old new = (status ≡ printed.status) × Appends old new printed.text
HoldsAfter takes_all (Ok printed) (Err failure) old new =
    (fault : WriteFault) × (failure ≡ Run (run.Device fault)) × BreaksOff takes_all old new printed.text
HoldsAfter takes_all (Err failure) (Ok status) old new = ⊥
HoldsAfter takes_all (Err failure) (Err found) old new = (found ≡ failure) × Keeps old new

-- the same for a request that may end in more than one way
pub record Leaves (takes_all : Bool) (step : Step Printed) (done : Result ℕ Failure) (old new : Option (List ℕ)) : Type 0 where
  pub end : Result Printed Failure
  pub ends : step end
  pub puts : HoldsAfter takes_all end done old new

-- what happens to a stream: whether it accepts all bytes, and what it held before and after
pub record StreamChange : Type 0 where
  pub takes_all : Bool
  pub old : Option (List ℕ)
  pub new : Option (List ℕ)

-- the exit status, and standard error: nothing after success, and after a failure its status and its line
abbrev pub Exits : List SourcePath → Result ℕ Failure → (status : ℕ) → StreamChange → Type 0
Exits sources (Ok status) found err = (found ≡ status) × Keeps err.old err.new
Exits sources (Err failure) found err =
    (found ≡ status_of failure) × PutsOrBreaksOff err.takes_all err.old err.new (fault_text sources failure)
