-- The laws of a clear span: `clear` never ends with status 0 where a job may start, or where something is unknown (agenda).
use Rattle.std.specs.Prelude.{◌≡◌, ◌<◌, ◌≤◌, ◌+◌, ℕ, Bool, true, false, List, [], Option, Ok, Some, length, slice_get}
use Rattle.plan_next.specs.Span.{Bounds}
use Rattle.plan_next.specs.Starts.{is_start}
use Rattle.plan_rules.specs.Delays.{counted}
use Rattle.plan_rules.specs.Job.{JobParts}
use Rattle.plan_collect.specs.declared.PlanView.TheVariants.{First}
use Rattle.plan_machine.specs.declared.Machine.{Machine}
use Rattle.plan_clear.specs.First.{whole_minute}
use Rattle.agenda_machine.specs.declared.Unknown.{Unknown}
use Rattle.agenda_arguments.specs.declared.JobsRequest.{JobsRequest}
use Rattle.agenda_commands.specs.Prepare.{jobs_if, jobs_or}
use Rattle.agenda_commands.specs.declared.Form.{Form}
use Rattle.agenda_commands.specs.declared.Goal.TheVariants.{Plan}
use Rattle.agenda_commands.specs.declared.Planning.{Planning}
use Rattle.agenda_faults.specs.Status.{done_status}
use Rattle.agenda_inputs.specs.Files.{Held}
use Rattle.agenda_inputs.specs.MachineZone.{KnownTree}
use Rattle.agenda_inputs.specs.Sources.{input_of}
use Rattle.agenda_inputs.specs.declared.Tried.{Tried}
use Rattle.agenda_sources.specs.declared.Found.{Found}
use Rattle.agenda_sources.specs.declared.SourcePath.{SourcePath}
use Rattle.agenda_sources.specs.declared.TimeZones.{TimeZones}
use Rattle.agenda_answers.specs.Machine.{answers_said}
use Rattle.agenda_answers.specs.Outcome.{Outcome, outcome_by}

-- no job may start in a span: at no second of it from one of its starts to that start and its delay, or of a cron job to the end of that
-- minute
abbrev pub NothingStarts : List JobParts → Bounds → Type 0
NothingStarts jobs span = (number start second : ℕ) (job : JobParts) → slice_get jobs number ≡ Some job → is_start job.rule start ≡ true
    → start ≤ second → second ≤ start + (whole_minute job).delay → span.since ≤ second → second < span.upto → ⊥

-- these jobs are read of files, and none of them may start in the span of a plan
pub record IsClearOf (keeps_going : Bool) (held : Held) (planning : Planning) (request : JobsRequest) : Type 0 where
  pub tried : Tried
  pub zones : TimeZones
  pub jobs : List JobParts
  pub read : input_of keeps_going held request.zones request.sources (Ok (tried, zones))
  pub are : jobs_or (jobs_if keeps_going zones tried.sources) zones tried.sources ≡ Ok jobs
  pub clear : NothingStarts (counted planning.delays jobs) planning.span

-- if `clear` answers with status 0, nothing was skipped, and no job may start in the span
abbrev pub ClearIsSafe : Type 0
ClearIsSafe = (keeps_going : Bool) (held : Held) (planning : Planning) (request : JobsRequest) (outcome : Outcome) (text : List ℕ)
    → outcome_by keeps_going held (Plan planning First) request (Ok outcome) → outcome.answer ≡ Ok text → outcome.status ≡ done_status
    → (outcome.unread ≡ []) × (outcome.errors ≡ []) × IsClearOf keeps_going held planning request

-- the same of a machine with these jobs, of which these things are unknown: status 0 comes only if no planned job may start in the span,
-- and nothing is unknown
abbrev pub MachineClearIsSafe : Type 0
MachineClearIsSafe =
    (tree : KnownTree) (dir : List ℕ) (machine : Machine) (paths : List SourcePath) (errors : List Found) (unknown : List Unknown)
    (form : Form) (planning : Planning)
    (jobs : List JobParts) (outcome : Outcome) (remark : Option (List ℕ)) (text : List ℕ)
    → answers_said tree dir machine paths errors (length unknown) form (Plan planning First) jobs (Ok (outcome, remark))
    → outcome.answer ≡ Ok text → outcome.status ≡ done_status
    → (unknown ≡ []) × NothingStarts (counted planning.delays jobs) planning.span
