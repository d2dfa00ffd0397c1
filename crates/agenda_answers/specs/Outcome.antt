-- The answer to a request for jobs. If it keeps going, what is invalid or can't be read is skipped and reported.
-- All of it is our choice (agenda).
use Rattle.std.specs.Prelude.{◌≡◌, ◌≢◌, ◌⊎◌, ℕ, ◌==◌, ◌&&◌, if◌then◌else◌, Bool, true, false, List, [], ◌∷◌, Option, None, Some, Result, Ok, Err, IfErr}
use Rattle.std.specs.Io.KnownBytes.{Appends, Keeps}
use Rattle.plan_rules.specs.Job.{JobParts}
use Rattle.plan_streams.specs.Stream.{BreaksOff}
use Rattle.agenda_arguments.specs.declared.JobsRequest.{JobsRequest}
use Rattle.agenda_faults.specs.declared.faults.RunFault.{RunFault}
use Rattle.agenda_faults.specs.declared.faults.RunFault.TheVariants.{NoMemory}
use Rattle.agenda_faults.specs.declared.faults.Failure.{Failure}
use Rattle.agenda_faults.specs.declared.faults.Failure.TheVariants.{Run}
use Rattle.agenda_faults.specs.Status.{done_status, failed_status, rejected_status}
use Rattle.agenda_sources.specs.declared.SourcePath.{SourcePath}
use Rattle.agenda_sources.specs.declared.Found.{Found}
use Rattle.agenda_sources.specs.declared.Source.{Source}
use Rattle.agenda_sources.specs.declared.TimeZones.{TimeZones}
use Rattle.agenda_sources.specs.Findings.{kept_jobs, sources_errors}
use Rattle.agenda_findings.specs.Skipped.{skipped_text}
use Rattle.agenda_commands.specs.declared.Goal.{Goal}
use Rattle.agenda_commands.specs.Goal.{AnswersGoal, checked_jobs, finds_in, valid_goal}
use Rattle.agenda_commands.specs.declared.RemarkedAnswer.{RemarkedAnswer}
use Rattle.agenda_commands.specs.Prepare.{jobs_or}
use Rattle.agenda_inputs.specs.declared.Tried.{Tried}
use Rattle.agenda_answers.specs.declared.jobs.Said.{Said}
use Rattle.agenda_answers.specs.Answer.{Exits, HoldsAfter, Printed, StreamChange}
use Rattle.agenda_inputs.specs.Files.{Held}
use Rattle.agenda_answers.specs.Formats.{format_made, utc_name}
use Rattle.agenda_inputs.specs.Sources.{input_of}
use Rattle.agenda_inputs.specs.Steps.{Step, computes, gives, ◌>>=◌}

-- the paths of files that can't be read and those of the others, the errors in these, the answer for the jobs that are left, and its
-- exit status
pub record Outcome : Type 0 where
  pub unread : List SourcePath
  pub paths : List SourcePath
  pub errors : List Found
  pub answer : Result (List ℕ) RunFault
  pub status : ℕ

-- the exit status of an answer: whether a file can't be read, and whether there is an error
abbrev pub skipped_status : (unread : List SourcePath) → (errors : List Found) → ℕ
skipped_status [] [] = done_status
skipped_status [] (error ∷ more) = rejected_status
skipped_status (path ∷ more) errors = failed_status

-- an answer and what is said about it; nothing is said about an error
abbrev pub parted : Result RemarkedAnswer RunFault → Result (List ℕ) RunFault × Said
parted (Ok made) = (Ok made.answer, record { remark = made.remark; finds_any = made.finds_any })
parted (Err fault) = (Err fault, record { remark = None; finds_any = false })

-- whether an answer says that a job may start in the span, or that something changed; an error doesn't
abbrev pub has_found : Result (List ℕ) RunFault → (finds : Bool) → Bool
has_found (Ok text) finds = finds
has_found (Err fault) finds = false

-- the exit status of an answer, by that without it: 1 if a job may start in a span that was to be clear, or if something changed
abbrev pub found_status : (finds : Bool) → (status : ℕ) → ℕ
found_status finds status = if finds && (status == done_status) then rejected_status else status

-- the errors that are skipped and the jobs that are left without them, if the request keeps going
abbrev pub kept_of : (keeps_going : Bool) → TimeZones → List Source → Step (List Found × Option (List JobParts))
kept_of true zones sources = computes (sources_errors zones sources, Some (kept_jobs zones sources))
kept_of false zones sources = gives ([], None)

-- an answer is there or an error; if an allocation failed, the whole request fails
abbrev pub settles : {A : Type 0} → Result A RunFault → Step (Result A RunFault)
settles made (Ok (Ok answer)) = made ≡ Ok answer
settles made (Ok (Err fault)) = (fault ≢ NoMemory) × (made ≡ Err fault)
settles made (Err failure) = (failure ≡ Run NoMemory) × (made ≡ Err NoMemory)

-- the answer for jobs, in a form that says what answers a goal. An invalid goal is never reported as anything else
abbrev pub answer_of :
    (Goal → Result (List JobParts) RunFault → Result (List ℕ) RunFault → Type 0) → Goal → Result (List JobParts) RunFault →
    Step (Result (List ℕ) RunFault)
answer_of Answers goal jobs (Ok answer) = (answer ≢ Err NoMemory) × Answers goal (checked_jobs goal jobs) answer
answer_of Answers goal jobs (Err failure) = (failure ≡ Run NoMemory) × IfErr (valid_goal goal) (λ fault. failure ≡ Run fault)

-- the format is made, then the errors of the sources are found, and then the answer is made
abbrev pub outcome_of : (keeps_going : Bool) → Goal → JobsRequest → Tried × TimeZones → Step Outcome
outcome_of keeps_going goal jobs (tried, zones) = do
  format ← format_made jobs.format jobs.zones.zone utc_name zones.clock
  kept ← kept_of keeps_going zones tried.sources
  answer ← answer_of (AnswersGoal format) goal (jobs_or kept.1 zones tried.sources)
  gives (record {
    unread = tried.unread;
    paths = tried.paths;
    errors = kept.0;
    answer = answer;
    status = found_status (has_found answer (finds_in goal (jobs_or kept.1 zones tried.sources))) (skipped_status tried.unread kept.0);
  })

-- the same, once the zone and then the files were read
abbrev pub outcome_by : (keeps_going : Bool) → Held → Goal → JobsRequest → Step Outcome
outcome_by keeps_going held goal jobs = do
  input ← input_of keeps_going held jobs.zones jobs.sources
  outcome_of keeps_going goal jobs input

-- ---- the streams

-- something is skipped
abbrev pub HasSkipped : Outcome → Type 0
HasSkipped kept = (kept.unread ≢ []) ⊎ (kept.errors ≢ [])

-- the lines of what is skipped
abbrev pub lines_of_skipped : Outcome → List ℕ
lines_of_skipped kept = skipped_text kept.unread kept.paths kept.errors

-- what is printed after the lines of what is skipped, or the failure
abbrev pub printed : Result (List ℕ) RunFault → (status : ℕ) → Result Printed Failure
printed (Ok text) status = Ok (record { text = text; status = status })
printed (Err fault) status = Err (Run fault)

-- what a request leaves on standard output, its exit status, and standard error
abbrev pub ExitsWith : List SourcePath → Result Printed Failure → ℕ → (out err : StreamChange) → Type 0
ExitsWith sources end status out err =
    (done : Result ℕ Failure) × HoldsAfter out.takes_all end done out.old out.new × Exits sources done status err

-- standard error breaks off in the lines of what is skipped, and nothing is printed; or it takes them, and the
-- answer follows
abbrev pub Reports : List SourcePath → Outcome → ℕ → (out err : StreamChange) → Type 0
Reports sources kept status out err =
    (HasSkipped kept × BreaksOff err.takes_all err.old err.new (lines_of_skipped kept) × (status ≡ failed_status) × Keeps out.old out.new)
    ⊎ ((mid : Option (List ℕ)) × Appends err.old mid (lines_of_skipped kept)
    × ExitsWith sources (printed kept.answer kept.status) status out (record err { old = mid }))

-- the same, unless the request failed, with nothing but its line
abbrev pub ReportsOrFails : List SourcePath → Result Outcome Failure → ℕ → (out err : StreamChange) → Type 0
ReportsOrFails sources (Ok kept) status out err = Reports sources kept status out err
ReportsOrFails sources (Err failure) status out err = ExitsWith sources (Err failure) status out err

-- the answer to a request for jobs
abbrev pub AnswersJobs : Held → Goal → JobsRequest → ℕ → (out err : StreamChange) → Type 0
AnswersJobs held goal jobs status out err =
    (end : Result Outcome Failure) × outcome_by jobs.keep_going held goal jobs end × ReportsOrFails jobs.sources end status out err
