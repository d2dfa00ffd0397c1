-- The meaning of a crontab (crontab(5)): the jobs of its lines, or its first error with its line.
use Rattle.std.specs.Prelude.{ℕ, ◌+◌, Bool, false, ◌||◌, ◌==◌, if◌then◌else◌, List, ◌++◌, length, codes, Option, Some, None, Ok, Err}
use Rattle.std.specs.Char.{is_ascii_alphabetic}
use Rattle.std.specs.Fmt.{decimal}
use Rattle.std.specs.List.{list_any, filter_map, enumerate_from, slice_get}
use Rattle.std.specs.Str.{byte}
use Rattle.plan_rules.specs.declared.crontabs.Kind.{Kind}
use Rattle.plan_rules.specs.declared.crontabs.Kind.TheVariants.{User, System}
use Rattle.plan_rules.specs.declared.entry.Entry.{Entry}
use Rattle.plan_rules.specs.declared.line_fault.LineCause.TheVariants.{BadSetting, NoCommand}
use Rattle.plan_texts.specs.Steps.{◌>>=◌}
use Rattle.plan_grammar.specs.Cron.{rule_in_front}
use Rattle.plan_texts.specs.Lines.{lines, after_blanks, cut_word}
use Rattle.plan_rules.specs.LineFaults.{LineReading, TextReading, in_line}
use Rattle.plan_rules.specs.Entries.{entry_on, meant_by}
use Rattle.plan_rules.specs.FileText.{text_reading}
use Rattle.plan_rules.specs.Job.{JobParts}

-- ---- what a line's job runs

-- a command is kept as it is written; a missing command is an error (agenda)
abbrev pub command_reading : List ℕ → LineReading (List ℕ)
command_reading command = if length command == 0 then Err NoCommand else Ok command

-- what a job runs: the user that runs it, if there is one, and the command
abbrev pub Run : Type 0
Run = Option (List ℕ) × List ℕ

-- a user and the command; a missing user is reported as a missing command (agenda)
abbrev pub user_and_command : Option (List ℕ × List ℕ) → LineReading Run
user_and_command None = Err NoCommand
user_and_command (Some cut) = do
  command ← command_reading (after_blanks (cut.1))
  Ok (Some (cut.0), command)

-- what the job of a line runs, from the text that follows its rule; in the system's crontab a user comes first (crontab(5), the
-- note on the system crontab)
unfoldable pub what_reading : Kind → List ℕ → LineReading Run
what_reading User text = do
  command ← command_reading (after_blanks text)
  Ok (None, command)
what_reading System text = user_and_command (cut_word text)

-- ---- a line

-- the name of a line's job: the crontab's label, a colon and the number of the line in decimal (agenda)
abbrev pub job_name : List ℕ → ℕ → List ℕ
job_name label number = label ++ (codes ":" ++ decimal number)

-- the job of a line without leading blanks: its rule is read before its command (agenda)
unfoldable pub job_reading : (label : List ℕ) → Kind → ℕ → List ℕ → LineReading JobParts
job_reading label kind number text = do
  front ← in_line (rule_in_front text)
  run ← what_reading kind (front.1)
  Ok (record { name = job_name label number; user = run.0; command = run.1; rule = front.0; delay = 0; persistent = false })

-- the first characters of a setting: a letter, `_`, or a quote (agenda)
abbrev pub begins_setting : ℕ → Bool
begins_setting b = is_ascii_alphabetic b || ((b == byte "_") || ((b == byte "\"") || (b == byte "'")))

-- a setting must have an `=`, and makes no job (crontab(5), environment settings)
abbrev pub setting_reading : List ℕ → LineReading (Option JobParts)
setting_reading text = if list_any (λ b. b == byte "=") text then Ok None else Err BadSetting

-- a line without leading blanks: by its first character it is empty, a comment, a setting, or else a job (crontab(5))
abbrev pub entry_reading : (label : List ℕ) → Kind → ℕ → List ℕ → (first : Option ℕ) → LineReading (Option JobParts)
entry_reading label kind number text None = Ok None
entry_reading label kind number text (Some first) =
    if first == byte "#" then Ok None
    else (if begins_setting first then setting_reading text
    else (do
      job ← job_reading label kind number text
      Ok (Some job)))

-- a line; its leading blanks are ignored (crontab(5))
unfoldable pub line_reading : (label : List ℕ) → Kind → ℕ → List ℕ → LineReading (Option JobParts)
line_reading label kind number line = entry_reading label kind number (after_blanks line) (slice_get (after_blanks line) 0)

-- ---- a crontab

-- the entry of the line at a position, from 0, if it has one (agenda)
abbrev pub line_entry : (label : List ℕ) → Kind → ℕ × List ℕ → Option (Entry JobParts)
line_entry label kind line = entry_on (line.0 + 1) (line_reading label kind (line.0 + 1) (line.1))

-- the entries of lines, in order; a line that is empty, a comment or a valid setting has none (agenda)
unfoldable pub entries_of_lines : (label : List ℕ) → Kind → List (List ℕ) → List (Entry JobParts)
entries_of_lines label kind lines = filter_map (line_entry label kind) (enumerate_from 0 lines)

-- the meaning of a crontab: its bytes are checked first; then it is the jobs of its lines, or the error of the first rejected
-- line (agenda)
abbrev pub crontab_reading : (label : List ℕ) → Kind → List ℕ → TextReading (List JobParts)
crontab_reading label kind bytes = do
  text ← text_reading bytes
  meant_by (entries_of_lines label kind (lines text))
