-- What is known from file to file: the jobs so far, in the order in which they are added (agenda).
use Rattle.std.specs.Prelude.{ℕ, ◌+◌, Bool, false, true, not, ◌||◌, nat_lt, if◌then◌else◌, List, [], ◌∷◌, ◌++◌, length, Option, Some, None, is_some, option_map}
use Rattle.std.specs.List.{cons_option, list_any}
use Rattle.std.specs.Str.{bytes_eq}
use Rattle.plan_clock.specs.declared.row.Change.{Change}
use Rattle.plan_rules.specs.Job.{JobParts}
use Rattle.plan_rules.specs.Jobs.{number_of}
use Rattle.plan_rules.specs.Limits.{most_jobs}
use Rattle.plan_check.specs.declared.finding.Finding.{Finding}
use Rattle.plan_check.specs.declared.finding.FindingKind.{FindingKind}
use Rattle.plan_check.specs.declared.finding.FindingKind.TheVariants.{SameName, Full}
use Rattle.plan_check.specs.Finding.{finding_at}

-- the jobs that are kept, since nothing is wrong with them, the names of the timers that are rejected as a whole, whether Full
-- was reported, whether the file that is checked makes jobs, and the clock by which jobs start, if there are to be warnings
pub record KnownJobs : Type 0 where
  pub jobs : List JobParts
  pub others : List (List ℕ)
  pub told : Bool
  pub makes_jobs : Bool
  pub clock : Option (List Change)

-- what is known before the first file
abbrev pub no_jobs : Option (List Change) → KnownJobs
no_jobs clock = record { jobs = []; others = []; told = false; makes_jobs = true; clock = clock }

-- the same for a file that makes jobs, or that makes none
abbrev pub with_jobs : KnownJobs → (makes_jobs : Bool) → KnownJobs
with_jobs known makes_jobs = record known { makes_jobs = makes_jobs }

-- the same without a clock, so that there are no warnings
abbrev pub without_warnings : KnownJobs → KnownJobs
without_warnings known = record known { clock = None }

-- whether a job, or a timer that is rejected, has a name
abbrev pub is_taken : List ℕ → KnownJobs → Bool
is_taken name known = list_any (bytes_eq name) known.others || is_some (number_of name known.jobs)

-- whether there are fewer than 1,000 of them
abbrev pub has_room : KnownJobs → Bool
has_room known = nat_lt (length known.others + length known.jobs) most_jobs

-- what is wrong with a job of this name, if the file makes jobs: SameName if another job has it, even if there are
-- 1,000 jobs; else Full if there are 1,000, which is reported only once
abbrev pub name_fault : KnownJobs → List ℕ → Option FindingKind
name_fault known name =
    if not known.makes_jobs then None
    else (if is_taken name known then Some SameName
    else (if has_room known then None
    else (if known.told then None else Some Full)))

-- the error that another job has a name quotes the name (agenda)
abbrev pub name_quote : (name : List ℕ) → FindingKind → Option (List ℕ)
name_quote name SameName = Some name
name_quote name other = None

-- what is wrong with the name of a job of a line, or of a timer, which is line 0
abbrev pub job_findings : KnownJobs → (line : ℕ) → (name : List ℕ) → List Finding
job_findings known line name =
    cons_option (option_map (λ kind. finding_at line kind (name_quote name kind)) (name_fault known name)) []

-- what is known after a job of this name was checked, if this is known when it is added: it is added if nothing is wrong with
-- its name
abbrev pub after_name : KnownJobs → List ℕ → (added : KnownJobs) → KnownJobs
after_name known name added =
    if not known.makes_jobs then known
    else (if is_taken name known then known
    else (if has_room known then added
    else record known { told = true }))

-- what is known after a job
abbrev pub after_job : KnownJobs → JobParts → KnownJobs
after_job known job = after_name known job.name (record known { jobs = known.jobs ++ job ∷ [] })

-- what is known after a timer that is rejected as a whole: it makes no job, but no later job may have its name
abbrev pub after_other : KnownJobs → List ℕ → KnownJobs
after_other known name = after_name known name (record known { others = known.others ++ name ∷ [] })
