-- The scripts that jobs start by run-parts, as a table of jobs shows them (agenda).
use Rattle.std.specs.Prelude.{ℕ, List, [], ◌∷◌, ◌++◌, codes, Option, None, Some}
use Rattle.std.specs.List.{flat_map}
use Rattle.plan_rules.specs.Job.{JobParts}
use Rattle.plan_write.specs.Texts.{by_files, run_text}
use Rattle.plan_write.specs.declared.JobFile.{JobFile}
use Rattle.agenda_sources.specs.Name.{file_name}
use Rattle.agenda_table.specs.Rows.{JobTexts}

-- the name of one more script, without its directory
abbrev pub more_name : (path : List ℕ) → List ℕ
more_name path = codes " " ++ file_name path

-- the names of scripts in brackets, after two blanks; nothing if there are none
abbrev pub names_of : (paths : List (List ℕ)) → List ℕ
names_of [] = []
names_of (first ∷ more) = (codes "  [" ++ file_name first) ++ (flat_map more_name more ++ codes "]")

-- the names of the scripts of a job, if they are known
abbrev pub scripts_note : Option JobFile → List ℕ
scripts_note None = []
scripts_note (Some file) = names_of file.scripts

-- what the rows of a job have of it, with the names of its scripts after what it runs
abbrev pub job_texts_with : Option JobFile → JobParts → JobTexts
job_texts_with file job =
    record { name = job.name; runs = run_text job.user job.command ++ scripts_note file; delay = job.delay }

-- what the rows of jobs have of them, each with the scripts of its file
abbrev pub texts_of_jobs : List JobFile → List JobParts → List JobTexts
texts_of_jobs files jobs = by_files job_texts_with files jobs
