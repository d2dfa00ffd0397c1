-- What is said in words of a rule, or of the jobs of crontabs and timers. All of it is our choice (agenda).
use Rattle.std.specs.Prelude.{◌≡◌, ◌≢◌, ℕ, Bool, List, None, Result, Ok, Err}
use Rattle.agenda_arguments.specs.declared.JobsRequest.{JobsRequest}
use Rattle.agenda_arguments.specs.declared.ZonesRequest.{ZonesRequest}
use Rattle.agenda_commands.specs.declared.Form.{Form}
use Rattle.agenda_commands.specs.declared.Form.TheVariants as form
use Rattle.agenda_commands.specs.Describe.{description_output, sentence_output}
use Rattle.agenda_commands.specs.Prepare.{jobs_or}
use Rattle.agenda_faults.specs.declared.faults.Failure.{Failure}
use Rattle.agenda_faults.specs.declared.faults.Failure.TheVariants.{Run}
use Rattle.agenda_faults.specs.declared.faults.RunFault.{RunFault}
use Rattle.agenda_faults.specs.declared.faults.RunFault.TheVariants.{NoMemory}
use Rattle.agenda_faults.specs.Status.{done_status}
use Rattle.agenda_sources.specs.declared.Asked.{Asked}
use Rattle.agenda_sources.specs.declared.TimeZones.{TimeZones}
use Rattle.agenda_inputs.specs.declared.Tried.{Tried}
use Rattle.agenda_inputs.specs.Files.{Held}
use Rattle.agenda_inputs.specs.Sources.{input_of, rule_zones}
use Rattle.agenda_inputs.specs.Steps.{Step, gives, ◌>>=◌}
use Rattle.agenda_answers.specs.Answer.{Printed, StreamChange, outputs}
use Rattle.agenda_answers.specs.Outcome.{Outcome, ReportsOrFails, kept_of, skipped_status}

-- `describe` of a rule: the zones are read first
abbrev pub describe_ends : Held → Asked → ZonesRequest → (json : Bool) → Step Printed
describe_ends held rule request json = do
  zones ← rule_zones held request rule
  outputs done_status (sentence_output zones.timers.zones rule json)

-- descriptions are there or an error; if an allocation failed, the whole request fails
abbrev pub described_as : Result (List ℕ) RunFault → Step (Result (List ℕ) RunFault)
described_as output (Ok answer) = (answer ≢ Err NoMemory) × (output ≡ answer)
described_as output (Err failure) = failure ≡ Run NoMemory

-- the form of descriptions: lines, or objects
abbrev pub lines_form : (json : Bool) → Form
lines_form json = form.Lines (record { json = json; local = None })

-- the errors of the sources are found, and then their jobs are described
abbrev pub described_of : JobsRequest → Tried × TimeZones → Step Outcome
described_of jobs (tried, zones) = do
  kept ← kept_of jobs.keep_going zones tried.sources
  answer ← described_as
      (description_output (lines_form jobs.format.json) zones tried.sources (jobs_or kept.1 zones tried.sources))
  gives (record {
    unread = tried.unread;
    paths = tried.paths;
    errors = kept.0;
    answer = answer;
    status = skipped_status tried.unread kept.0;
  })

-- `describe` of sources: the zone is read first, then the files
abbrev pub described_by : Held → JobsRequest → Step Outcome
described_by held jobs = do
  input ← input_of jobs.keep_going held jobs.zones jobs.sources
  described_of jobs input

-- the answer to a request to describe jobs
abbrev pub AnswersDescriptions : Held → JobsRequest → ℕ → (out err : StreamChange) → Type 0
AnswersDescriptions held jobs status out err =
    (end : Result Outcome Failure) × described_by held jobs end × ReportsOrFails jobs.sources end status out err
