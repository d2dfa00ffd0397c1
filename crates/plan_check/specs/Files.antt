-- How a file is read, by the kind of its source: its name, the jobs of its bytes, its findings, and what is known after it (agenda).
use Rattle.std.specs.Prelude.{ℕ, false, nat_eq, if◌then◌else◌, List, [], ◌∷◌, ◌++◌, codes, Option, Some, None, is_none, option_map, Ok, Err}
use Rattle.std.specs.List.{cons_option, ends_with}
use Rattle.std.specs.Option.{option_or}
use Rattle.std.specs.Str.{is_utf8}
use Rattle.plan_texts.specs.Lines.{is_too_large}
use Rattle.plan_texts.specs.Steps.{◌>>=◌}
use Rattle.plan_rules.specs.declared.crontabs.Kind.TheVariants as whose
use Rattle.plan_rules.specs.declared.line_fault.LineCause.{LineCause}
use Rattle.plan_rules.specs.declared.line_fault.LineCause.TheVariants.{BadTimerName, NotUtf8, TooLarge}
use Rattle.plan_rules.specs.declared.source_kind.SourceKind.{SourceKind}
use Rattle.plan_rules.specs.declared.source_kind.SourceKind.TheVariants.{Crontab, System, CronD, Spool, Timer}
use Rattle.plan_rules.specs.Crontab.{crontab_reading}
use Rattle.plan_rules.specs.FileText.{text_reading}
use Rattle.plan_rules.specs.Job.{JobParts}
use Rattle.plan_rules.specs.LineFaults.{TextReading, on_line}
use Rattle.plan_rules.specs.SourceKind.{name_cause}
use Rattle.plan_rules.specs.Timer.{settings_from}
use Rattle.plan_rules.specs.TimerEntries.{timer_lines, timer_reading}
use Rattle.plan_check.specs.declared.context.TimerContext.{TimerContext}
use Rattle.plan_check.specs.declared.finding.Finding.{Finding}
use Rattle.plan_check.specs.Context.{delay_in}
use Rattle.plan_check.specs.Crontabs.{crontab_findings, after_crontab}
use Rattle.plan_check.specs.Finding.{rejected_at}
use Rattle.plan_check.specs.Known.{KnownJobs, with_jobs}
use Rattle.plan_check.specs.Timers.{after_timer, timer_findings}

-- a file
pub record File : Type 0 where
  pub kind : SourceKind
  pub name : List ℕ
  pub bytes : List ℕ

abbrev pub file_of : SourceKind → (name bytes : List ℕ) → File
file_of kind name bytes = record { kind = kind; name = name; bytes = bytes }

-- ---- the jobs of a file

-- the reading of one job, as a list of one
abbrev pub alone : TextReading JobParts → TextReading (List JobParts)
alone reading = do
  job ← reading
  Ok (job ∷ [])

-- the job of a timer: as it is by its text alone, but with the delay that it has in this context
abbrev pub timer_in : TimerContext → (name bytes : List ℕ) → TextReading JobParts
timer_in context name bytes = do
  job ← timer_reading context.zones name bytes
  lines ← timer_lines bytes
  Ok (record job { delay = delay_in context (settings_from false lines) })

-- the jobs of a file by its text, or its first error. A crontab's jobs are named after the label `cron` or `system`, or after the
-- file's name; a user precedes each command in the system's crontab and in /etc/cron.d (crontab(5), cron(8) of Debian)
abbrev pub jobs_of_text : TimerContext → SourceKind → (name bytes : List ℕ) → TextReading (List JobParts)
jobs_of_text context Crontab name bytes = crontab_reading (codes "cron") whose.User bytes
jobs_of_text context System name bytes = crontab_reading (codes "system") whose.System bytes
jobs_of_text context CronD name bytes = crontab_reading name whose.System bytes
jobs_of_text context Spool name bytes = crontab_reading name whose.User bytes
jobs_of_text context Timer name bytes = alone (timer_in context name bytes)

-- what is wrong with the name of a file of this kind. The crontab of a user may have any name but an empty one: users of a machine have
-- other names than `--spool` takes (agenda)
abbrev pub file_cause : SourceKind → (name : List ℕ) → Option LineCause
file_cause Spool (first ∷ rest) = None
file_cause kind name = name_cause kind name

-- this reading, unless something is wrong with the file's name
abbrev pub unless_named : Option LineCause → TextReading (List JobParts) → TextReading (List JobParts)
unless_named None reading = reading
unless_named (Some cause) reading = on_line 0 (Err cause)

-- the jobs of a file, or its first error: its name is checked first
abbrev pub file_reading : TimerContext → SourceKind → (name bytes : List ℕ) → TextReading (List JobParts)
file_reading context kind name bytes = unless_named (file_cause kind name) (jobs_of_text context kind name bytes)

-- ---- findings

-- what the error of a file's name ends with: a timer's file without the ending may be a crontab
abbrev pub name_detail : (name : List ℕ) → LineCause → Option (List ℕ)
name_detail name BadTimerName =
    if ends_with nat_eq name (codes ".timer") then None else Some (codes "for a crontab, use --crontab or --cron-d")
name_detail name other = None

-- the error of a file's name, which quotes nothing
abbrev pub name_error : (name : List ℕ) → LineCause → Finding
name_error name cause = record (rejected_at 0 cause) { detail = name_detail name cause }

-- the finding of a file's name, if it is bad
abbrev pub name_findings : SourceKind → (name : List ℕ) → List Finding
name_findings kind name = cons_option (option_map (name_error name) (file_cause kind name)) []

-- what is known in a file: if its name is bad, it makes no jobs
abbrev pub in_file : KnownJobs → SourceKind → (name : List ℕ) → KnownJobs
in_file known kind name = with_jobs known (is_none (file_cause kind name))

-- the findings of a file's text
abbrev pub text_findings : TimerContext → KnownJobs → SourceKind → (name bytes : List ℕ) → List Finding
text_findings context known Crontab name bytes = crontab_findings known (codes "cron") whose.User (text_reading bytes)
text_findings context known System name bytes = crontab_findings known (codes "system") whose.System (text_reading bytes)
text_findings context known CronD name bytes = crontab_findings known name whose.System (text_reading bytes)
text_findings context known Spool name bytes = crontab_findings known name whose.User (text_reading bytes)
text_findings context known Timer name bytes = timer_findings context known name bytes (timer_lines bytes)

-- what is known after a file's text
abbrev pub after_text : TimerContext → KnownJobs → SourceKind → (name bytes : List ℕ) → KnownJobs
after_text context known Crontab name bytes = after_crontab known (codes "cron") whose.User (text_reading bytes)
after_text context known System name bytes = after_crontab known (codes "system") whose.System (text_reading bytes)
after_text context known CronD name bytes = after_crontab known name whose.System (text_reading bytes)
after_text context known Spool name bytes = after_crontab known name whose.User (text_reading bytes)
after_text context known Timer name bytes = after_timer context known name (timer_lines bytes)

-- the findings of a file: its name is checked first, and then its text, even if the name is bad
abbrev pub file_findings : TimerContext → KnownJobs → File → List Finding
file_findings context known file =
    name_findings file.kind file.name ++ text_findings context (in_file known file.kind file.name) file.kind file.name file.bytes

-- what is known after a file
abbrev pub after_file : TimerContext → KnownJobs → File → KnownJobs
after_file context known file = after_text context (in_file known file.kind file.name) file.kind file.name file.bytes

-- ---- errors that are found before any memory is requested

-- what is wrong with a file's bytes: their number is checked first
abbrev pub bytes_cause : List ℕ → Option LineCause
bytes_cause bytes = if is_too_large bytes then Some TooLarge else (if is_utf8 bytes then None else Some NotUtf8)

-- what is wrong with a file: its name is checked first
abbrev pub cause_at_once : SourceKind → (name bytes : List ℕ) → Option LineCause
cause_at_once kind name bytes = option_or (file_cause kind name) (bytes_cause bytes)
