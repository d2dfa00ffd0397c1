-- The one error that decides, for a reader that makes jobs of whole files only: a file with an error makes none (agenda).
use Rattle.std.specs.Prelude.{ℕ, zero, false, true, nat_lt, if◌then◌else◌, List, [], ◌∷◌, ◌++◌, length, is_some, Option, Some, None, option_map, unwrap_or, Result, Ok, Err}
use Rattle.std.specs.List.{filter_map}
use Rattle.std.specs.Option.{option_or}
use Rattle.plan_texts.specs.Steps.{◌>>=◌}
use Rattle.plan_rules.specs.declared.line_fault.LineCause.{LineCause}
use Rattle.plan_rules.specs.declared.line_fault.LineCause.TheVariants.{NoTimerSection}
use Rattle.plan_rules.specs.declared.line_fault.LineFault.{LineFault}
use Rattle.plan_rules.specs.Job.{JobParts}
use Rattle.plan_rules.specs.Jobs.{number_of}
use Rattle.plan_rules.specs.Limits.{most_jobs}
use Rattle.plan_rules.specs.LineFaults.{TextReading, fault_on_line}
use Rattle.plan_check.specs.declared.context.TimerContext.{TimerContext}
use Rattle.plan_check.specs.declared.deciding.FileFault.{FileFault}
use Rattle.plan_check.specs.declared.deciding.FileFault.TheVariants as fault
use Rattle.plan_check.specs.declared.finding.Finding.{Finding}
use Rattle.plan_check.specs.declared.finding.FindingKind.{FindingKind}
use Rattle.plan_check.specs.declared.finding.FindingKind.TheVariants.{Rejected, SameName}
use Rattle.plan_check.specs.Files.{File, after_file, file_findings}
use Rattle.plan_check.specs.Finding.{first_of}
use Rattle.plan_check.specs.Known.{KnownJobs}

-- ---- among the errors of a file

-- the error of a file's name, of its text or of a line decides before any other. That the whole file has no `[Timer]` section is
-- none of these
abbrev pub early_cause : ℕ → LineCause → Option LineFault
early_cause zero NoTimerSection = None
early_cause line cause = Some (fault_on_line line cause)

-- the same for a finding
abbrev pub early_fault : ℕ → FindingKind → Option LineFault
early_fault line (Rejected cause) = early_cause line cause
early_fault line other = None

-- the first of them
abbrev pub first_early : List Finding → Option LineFault
first_early found = first_of (filter_map (λ finding. early_fault finding.line finding.kind) found)

-- an error that decides if there is none of them; a warning never does. That another job has a name quotes the name
abbrev pub late_fault : ℕ → FindingKind → (quote : Option (List ℕ)) → FileFault
late_fault line (Rejected cause) quote = fault.Rejected (fault_on_line line cause)
late_fault line SameName quote = fault.SameName (unwrap_or quote [])
late_fault line other quote = fault.Full

-- the error that decides among the errors of a file: the first early one, else the first
abbrev pub deciding : List Finding → Option FileFault
deciding found =
    option_or (option_map fault.Rejected (first_early found))
    (option_map (λ finding. late_fault finding.line finding.kind finding.quote) (first_of found))

-- ---- what such a reader makes of a file

-- this, unless there is an error
abbrev pub unless_fault : {A E : Type 0} → Option E → A → Result A E
unless_fault None x = Ok x
unless_fault (Some fault) x = Err fault

-- what is known after a file, or the error that decides
abbrev pub strictly : TimerContext → KnownJobs → File → Result KnownJobs FileFault
strictly context known file =
    unless_fault (deciding (file_findings context known file)) (after_file context known file)

-- what is known after files that made these jobs, without warnings
abbrev pub known_jobs : List JobParts → KnownJobs
known_jobs jobs = record { jobs = jobs; others = []; told = false; makes_jobs = true; clock = None }

-- ---- the same by what the file says

-- one more job: first its name must be new, then there must be fewer than 1,000 jobs
abbrev pub with_job : List JobParts → JobParts → Result (List JobParts) FileFault
with_job jobs job =
    if is_some (number_of job.name jobs) then Err (fault.SameName job.name)
    else (if nat_lt (length jobs) most_jobs then Ok (jobs ++ job ∷ []) else Err fault.Full)

-- more jobs, in order
abbrev pub with_each : List JobParts → List JobParts → Result (List JobParts) FileFault
with_each jobs [] = Ok jobs
with_each jobs (job ∷ more) = do
  next ← with_job jobs job
  with_each next more

-- a file's jobs after others, in order, or the error by which it is rejected
abbrev pub with_reading : List JobParts → TextReading (List JobParts) → Result (List JobParts) FileFault
with_reading jobs (Ok more) = with_each jobs more
with_reading jobs (Err rejected) = Err (fault.Rejected rejected)

-- what is known then
abbrev pub known_with : List JobParts → TextReading (List JobParts) → Result KnownJobs FileFault
known_with jobs reading = do
  next ← with_reading jobs reading
  Ok (known_jobs next)
