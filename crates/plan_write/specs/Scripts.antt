-- The scripts that jobs start by run-parts, by the next starts of the jobs (agenda).
use Rattle.std.specs.Prelude.{ℕ, List, [], ◌++◌, codes, Option, Some, None, slice_get, refl}
use Rattle.std.specs.Coded.{Coded, code_by, coded×, coded_list, coded_ℕ}
use Rattle.std.specs.List.{flat_map}
use Rattle.plan_rules.specs.Job.{JobParts}
use Rattle.plan_rules.specs.declared.NamedZone.{NamedZone}
use Rattle.plan_write.specs.Shown.{shown}
use Rattle.plan_write.specs.Texts.{by_files}
use Rattle.plan_write.specs.TimeFields.{time_column}
use Rattle.plan_write.specs.Upcoming.{start_or_none}
use Rattle.plan_write.specs.declared.line_ends.JobFile.{JobFile}

-- ---- the scripts of jobs

-- what the lines of a job's scripts have of it: its name and the paths of its scripts, in order
pub record ScriptParts : Type 0 where
  pub name : List ℕ
  pub paths : List (List ℕ)

-- these are stored as the pair of them
abbrev pub script_code : Coded ScriptParts
script_code =
    code_by (List ℕ × List (List ℕ)) (coded× (coded_list coded_ℕ) (coded_list (coded_list coded_ℕ))) (λ job. (job.name, job.paths))
    (λ t. record { name = t.0; paths = t.1 }) (λ _. refl)

-- the paths of a job's scripts; a job is only known to have scripts if its file is given
abbrev pub paths_of : Option JobFile → List (List ℕ)
paths_of None = []
paths_of (Some file) = file.scripts

-- what the lines of this job's scripts have of it
abbrev pub scripts_of : Option JobFile → JobParts → ScriptParts
scripts_of file job = record { name = job.name; paths = paths_of file }

-- the scripts of jobs
abbrev pub scripts_of_jobs : List JobFile → List JobParts → List ScriptParts
scripts_of_jobs files jobs = by_files scripts_of files jobs

-- ---- the text

-- the line of a script: the name of its job, the time at which the job starts, if it starts, and the path as people are shown it, with
-- tabs between them
abbrev pub script_line : (local : Option NamedZone) → (name : List ℕ) → (at : Option ℕ) → (path : List ℕ) → List ℕ
script_line local name at path = name ++ (codes "\t" ++ (time_column local at ++ (shown path ++ codes "\n")))

-- the lines of a job's scripts, in order, if there is such a job
abbrev pub script_lines : (local : Option NamedZone) → (at : Option ℕ) → Option ScriptParts → List ℕ
script_lines local at None = []
script_lines local at (Some job) = flat_map (script_line local job.name at) job.paths

-- the lines of the scripts of jobs, by the next starts of the jobs
abbrev pub scripts_text : (local : Option NamedZone) → (nexts : List (ℕ × ℕ)) → List ScriptParts → List ℕ
scripts_text local nexts jobs = flat_map (λ next. script_lines local (start_or_none next.0) (slice_get jobs next.1)) nexts
