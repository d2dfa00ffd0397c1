-- The form of an answer: lines or a table. All of it is our choice (agenda).
use Rattle.std.specs.Prelude.{ℕ, ◌==◌, if◌then◌else◌, Bool, true, false, List, Option, None, Some, Result}
use Rattle.plan_rules.specs.Job.{JobParts}
use Rattle.plan_write.specs.declared.Format.{Format}
use Rattle.plan_write.specs.declared.JobFile.{JobFile}
use Rattle.agenda_faults.specs.declared.faults.RunFault.{RunFault}
use Rattle.agenda_commands.specs.Goal.{AnswersWithFiles, has_table}
use Rattle.agenda_commands.specs.Table.{AnswersTable}
use Rattle.agenda_commands.specs.declared.goal.Goal.{Goal}
use Rattle.agenda_commands.specs.declared.goal.Goal.TheVariants as goal
use Rattle.agenda_commands.specs.declared.table.TableForm.{TableForm}
use Rattle.agenda_commands.specs.declared.prepare.Form.{Form}
use Rattle.agenda_commands.specs.declared.prepare.Form.TheVariants as form

-- how lines are written where an answer has no table: as text, by the clock of the table
abbrev pub lines_of_table : TableForm → Format
lines_of_table table = record { json = false; local = Some table.zone }

-- a table, if the answer has one, and otherwise lines
abbrev pub AnswersTabled :
    (has_table : Bool) → (files : Option (List JobFile)) → TableForm → Goal → Result (List JobParts) RunFault → Result (List ℕ) RunFault →
    Type 0
AnswersTabled true files table goal jobs answer = AnswersTable files table goal jobs answer
AnswersTabled false files table goal jobs answer = AnswersWithFiles files (lines_of_table table) goal jobs answer

-- the answer in a form, with the files of the jobs if these are given
abbrev pub AnswersForm :
    (files : Option (List JobFile)) → Form → Goal → Result (List JobParts) RunFault → Result (List ℕ) RunFault → Type 0
AnswersForm files (form.Lines format) goal jobs answer = AnswersWithFiles files format goal jobs answer
AnswersForm files (form.Table table) goal jobs answer = AnswersTabled (has_table goal) files table goal jobs answer

-- the time after which, or from which on, starts are searched for
abbrev pub start_of : Goal → ℕ
start_of (goal.Plan planning view) = planning.span.since
start_of (goal.Upcoming after delays) = after
start_of (goal.Scripts after) = after
start_of (goal.Quiet planning least) = planning.span.since
start_of (goal.Changes planning before) = planning.span.since

-- the time from which a table counts: now, if the answer starts there
abbrev pub origin_at : (start now : ℕ) → Option ℕ
origin_at start now = if start == now then Some now else None

-- the same, by what is made of jobs
abbrev pub origin_of : Goal → (now : ℕ) → Option ℕ
origin_of goal now = origin_at (start_of goal) now
