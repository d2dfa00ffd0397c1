-- What contracts say of the list of jobs: the jobs are in the order in which they were added, and no two have the same name.
use Rattle.std.specs.Prelude.{ℕ, Bool, not, List, filter, map, position, Option}
use Rattle.std.specs.List.{IsDistinct, list_any}
use Rattle.std.specs.Str.{bytes_eq}
use Rattle.plan_rules.specs.Job.{JobParts}
use Rattle.plan_rules.specs.declared.jobs.AddFault.{AddFault}
use Rattle.plan_rules.specs.declared.jobs.AddFault.TheVariants.{NoMemory, SameName, Full}

-- whether a job has this name
abbrev pub is_named : List ℕ → JobParts → Bool
is_named name job = bytes_eq name job.name

-- the number of the job with this name: its position in the list, from 0 (agenda)
abbrev pub number_of : List ℕ → List JobParts → Option ℕ
number_of name jobs = position (is_named name) jobs

-- no two jobs have the same name
abbrev pub HaveDistinctNames : List JobParts → Type 0
HaveDistinctNames jobs = IsDistinct bytes_eq (map (λ job. job.name) jobs)

-- whether a job has none of these names
abbrev pub is_other : (names : List (List ℕ)) → JobParts → Bool
is_other names job = not (list_any (λ name. bytes_eq name job.name) names)

-- the jobs that have none of these names, in the same order (agenda)
abbrev pub without : (names : List (List ℕ)) → List JobParts → List JobParts
without names jobs = filter (is_other names) jobs

-- the job that an error gives back
abbrev pub job_of : AddFault → JobParts
job_of (NoMemory job) = job
job_of (SameName job) = job
job_of (Full job) = job
