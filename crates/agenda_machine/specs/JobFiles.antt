-- The files that the jobs of a machine come from, their lines there, by the names of the jobs, and the scripts of these lines (agenda).
use Rattle.std.specs.Prelude.{◌≡◌, ℕ, ◌==◌, ◌&&◌, ◌<◌, ◌^◌, nat_lt, Bool, false, if◌then◌else◌, List, [], ◌∷◌, length, map, codes, Option, None, Some, slice_get}
use Rattle.std.specs.Char.{is_ascii_digit}
use Rattle.std.specs.Fmt.{decimal}
use Rattle.std.specs.List.{after_first, before_first, list_all, list_any, position_or_len}
use Rattle.std.specs.Str.{byte, bytes_eq}
use Rattle.plan_machine.specs.Source.{SourceParts}
use Rattle.plan_parts.specs.Files.{FileBytes}
use Rattle.plan_parts.specs.Parts.{files_of}
use Rattle.plan_rules.specs.Crontab.{job_name}
use Rattle.plan_rules.specs.Job.{JobParts}
use Rattle.plan_rules.specs.declared.SourceKind.{SourceKind}
use Rattle.plan_rules.specs.declared.SourceKind.TheVariants.{Crontab, System, CronD, Spool, Timer}
use Rattle.plan_write.specs.declared.JobFile.{JobFile}
use Rattle.plan_tree.specs.Tree.{Held}
use Rattle.agenda_machine.specs.Paths.{below}
use Rattle.agenda_machine.specs.Scripts.{SourceScripts, scripts_of, with_scripts}

-- ---- the line

-- what comes before the colon in the names of a crontab's jobs (plan_check, `jobs_of_text`)
abbrev pub label_of : SourceKind → (name : List ℕ) → List ℕ
label_of Crontab name = codes "cron"
label_of System name = codes "system"
label_of CronD name = name
label_of Spool name = name
label_of Timer name = name

-- what comes before and after the first colon of a name
abbrev pub is_colon : ℕ → Bool
is_colon b = b == byte ":"

unfoldable pub cut_name : List ℕ → Option (List ℕ × List ℕ)
cut_name name =
    if nat_lt (position_or_len is_colon name) (length name) then Some (before_first is_colon name, after_first is_colon name) else None

-- the line of a crontab's job, by the name of the job: that is the crontab's label, a colon, and the number of the line in decimal
-- (plan_rules, `job_name`), and the label has no colon. A crontab of a machine is one file, so its line there is the same. The name
-- of a timer may have a colon too, but ends in `.timer`
abbrev pub line_by : (label : List ℕ) → Option (List ℕ × List ℕ) → Option (List ℕ)
line_by label None = None
line_by label (Some cut) = if bytes_eq cut.0 label && list_all is_ascii_digit cut.1 then Some cut.1 else None

-- the number of a line is read back from the name of its job
abbrev pub LinesAreInNames : Type 0
LinesAreInNames =
    (label : List ℕ) → (number : ℕ) → list_any is_colon label ≡ false → number < 2 ^ 64 →
    line_by label (cut_name (job_name label number)) ≡ Some (decimal number)

-- ---- the file

-- the first file of a source, with the line of a job and its scripts. The first file of a timer is its unit file
abbrev pub first_file : (root : List ℕ) → Option FileBytes → (line : Option (List ℕ)) → (scripts : List (List ℕ)) → Option JobFile
first_file root None line scripts = None
first_file root (Some file) line scripts = Some (record { path = below root file.path; line = line; scripts = scripts })

abbrev pub file_with : (root : List ℕ) → SourceScripts → (line : Option (List ℕ)) → Option JobFile
file_with root known line = first_file root (slice_get (files_of known.source.parts) 0) line (scripts_of known.lines line)

-- the file of a crontab's job, if it has a line in this crontab
abbrev pub file_at : (root : List ℕ) → SourceScripts → (line : Option (List ℕ)) → Option JobFile
file_at root known None = None
file_at root known (Some line) = file_with root known (Some line)

-- the file of a job with this name, if the job is one of this source. The job of a timer has the timer's name, and no line, since the
-- settings of a timer may be in several lines and files
abbrev pub file_by : (root : List ℕ) → SourceScripts → SourceKind → (job : List ℕ) → Option JobFile
file_by root known Timer job = if bytes_eq known.source.name job then file_with root known None else None
file_by root known kind job = file_at root known (line_by (label_of kind known.source.name) (cut_name job))

abbrev pub file_in : (root : List ℕ) → SourceScripts → (job : List ℕ) → Option JobFile
file_in root known job = file_by root known known.source.kind job

-- ---- all jobs

-- this file, or else another
abbrev pub or_file : Option JobFile → JobFile → JobFile
or_file None other = other
or_file (Some file) other = file

-- the file of a job with this name, which is one of these sources. No two crontabs have one label (plan_machine, `IsEachNameOnce`), so
-- it is the only source that has the job
abbrev pub file_among : (root : List ℕ) → List SourceScripts → (job : List ℕ) → JobFile
file_among root [] job = record { path = []; line = None; scripts = [] }
file_among root (known ∷ more) job = or_file (file_in root known job) (file_among root more job)

-- the files of jobs of these sources
abbrev pub files_among : (root : List ℕ) → List SourceScripts → List JobParts → List JobFile
files_among root sources jobs = map (λ job. file_among root sources job.name) jobs

-- the files of the jobs of a machine's sources
abbrev pub files_of_jobs : Held → (root : List ℕ) → List SourceParts → List JobParts → List JobFile
files_of_jobs held root sources jobs = files_among root (map (with_scripts held) sources) jobs
