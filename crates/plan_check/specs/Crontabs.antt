-- The findings of a crontab (crontab(5)). Which findings there are, and their order, is our choice (agenda).
use Rattle.std.specs.Prelude.{ℕ, ◌+◌, Bool, List, [], ◌∷◌, ◌++◌, Option, Some, None, Ok, Err}
use Rattle.std.specs.List.{enumerate_from}
use Rattle.plan_cron.specs.Hints.{hint}
use Rattle.plan_cron.specs.Lines.{first_beyond}
use Rattle.plan_cron.specs.Words.{word_at}
use Rattle.plan_rules.specs.declared.crontabs.Kind.{Kind}
use Rattle.plan_rules.specs.declared.line_fault.LineCause.{LineCause}
use Rattle.plan_rules.specs.declared.line_fault.LineCause.TheVariants.{Rule}
use Rattle.plan_rules.specs.Crontab.{line_reading}
use Rattle.plan_rules.specs.Job.{JobParts}
use Rattle.plan_rules.specs.LineFaults.{LineReading, TextReading}
use Rattle.plan_texts.specs.Lines.{lines}
use Rattle.plan_check.specs.declared.finding.Finding.{Finding}
use Rattle.plan_check.specs.CronWarnings.{end_warnings, is_first, place_warnings}
use Rattle.plan_check.specs.Finding.{error_at, rejected_at}
use Rattle.plan_check.specs.Known.{KnownJobs, after_job, job_findings}
use Rattle.plan_check.specs.Warnings.{setting_warnings, warnings_by}

-- ---- what an error of a line quotes (agenda)

-- an error of a rule quotes the field that it is about, or the first word if it is about no field; no other error quotes a text
abbrev pub field_quote : (text : List ℕ) → LineCause → Option (List ℕ)
field_quote text (Rule fault) = Some (word_at text fault.part)
field_quote text other = None

-- ---- one line

-- the findings of a line with this text that makes a job or is rejected: its one error, which may end with a hint, or what is wrong
-- with its job's name, and then the warnings
abbrev pub entry_findings : KnownJobs → Kind → ℕ → (text : List ℕ) → LineReading JobParts → List Finding
entry_findings known kind line text (Ok job) = job_findings known line job.name ++ warnings_by known.clock kind line text job
entry_findings known kind line text (Err cause) = error_at line cause (field_quote text cause) (hint line text) ∷ []

-- what is known after such a line: if it isn't rejected, it makes a job, whatever else is rejected
abbrev pub after_entry : KnownJobs → LineReading JobParts → KnownJobs
after_entry known (Ok job) = after_job known job
after_entry known (Err cause) = known

-- the findings of a line with its text, by what it is; the warnings on one that makes no job come only if there is a clock
abbrev pub reading_findings : KnownJobs → Kind → ℕ → List ℕ → LineReading (Option JobParts) → List Finding
reading_findings known kind line text (Ok None) = setting_warnings known.clock line text
reading_findings known kind line text (Ok (Some job)) = entry_findings known kind line text (Ok job)
reading_findings known kind line text (Err cause) = entry_findings known kind line text (Err cause)

-- the same after the warnings by the place of the line
abbrev pub line_findings : KnownJobs → Kind → (is_beyond : Bool) → ℕ → List ℕ → LineReading (Option JobParts) → List Finding
line_findings known kind is_beyond line text read =
    place_warnings known.clock is_beyond line text ++ reading_findings known kind line text read

-- what is known after a line
abbrev pub after_line : KnownJobs → LineReading (Option JobParts) → KnownJobs
after_line known (Ok None) = known
after_line known (Ok (Some job)) = after_entry known (Ok job)
after_line known (Err cause) = known

-- ---- all lines

-- the findings of lines with their positions, from 0, in order, if this is the first line beyond those that cron accepts
abbrev pub lines_findings : KnownJobs → (label : List ℕ) → Kind → (beyond : Option ℕ) → List (ℕ × List ℕ) → List Finding
lines_findings known label kind beyond [] = []
lines_findings known label kind beyond (line ∷ more) =
    line_findings known kind (is_first beyond (line.0 + 1)) (line.0 + 1) line.1 (line_reading label kind (line.0 + 1) line.1)
    ++ lines_findings (after_line known (line_reading label kind (line.0 + 1) line.1)) label kind beyond more

-- what is known after lines
abbrev pub after_lines : KnownJobs → (label : List ℕ) → Kind → List (ℕ × List ℕ) → KnownJobs
after_lines known label kind [] = known
after_lines known label kind (line ∷ more) =
    after_lines (after_line known (line_reading label kind (line.0 + 1) line.1)) label kind more

-- the findings of a crontab's text, of which that on its end is the last: if it is too large or not UTF-8, it has no lines
abbrev pub crontab_findings : KnownJobs → (label : List ℕ) → Kind → TextReading (List ℕ) → List Finding
crontab_findings known label kind (Ok text) =
    lines_findings known label kind (first_beyond (lines text)) (enumerate_from 0 (lines text)) ++ end_warnings known.clock text
crontab_findings known label kind (Err fault) = rejected_at fault.line fault.cause ∷ []

-- what is known after a crontab
abbrev pub after_crontab : KnownJobs → (label : List ℕ) → Kind → TextReading (List ℕ) → KnownJobs
after_crontab known label kind (Ok text) = after_lines known label kind (enumerate_from 0 (lines text))
after_crontab known label kind (Err fault) = known
