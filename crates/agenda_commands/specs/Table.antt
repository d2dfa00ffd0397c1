-- What is made of jobs, by a goal, as a table. All of it is our choice (agenda).
use Rattle.std.specs.Prelude.{◌≡◌, ℕ, min, Bool, List, ◌∷◌, chars, codes, length, map, Option, None, Some, Result, Ok, Err}
use Rattle.agenda_changes.specs.Last.{change_text}
use Rattle.agenda_changes.specs.Rows.{change_rows, change_times, runs_changes}
use Rattle.agenda_downtime.specs.Last.{missed_text}
use Rattle.agenda_downtime.specs.Rows.{downtime_rows, missed_texts, missed_times}
use Rattle.plan_collect.specs.Agenda.{Planned}
use Rattle.plan_collect.specs.declared.PlanView.{PlanView}
use Rattle.plan_collect.specs.declared.PlanView.TheVariants as view
use Rattle.plan_baseline.specs.Line.{Line}
use Rattle.plan_changes.specs.Changes.{AreChanges}
use Rattle.plan_changes.specs.declared.Change.{Change as StartChange}
use Rattle.plan_changes.specs.Lines.{job_texts as line_texts, lines_of}
use Rattle.plan_downtime.specs.Downtime.{missed_starts}
use Rattle.plan_rules.specs.Delays.{counted}
use Rattle.plan_rules.specs.Job.{JobParts}
use Rattle.plan_sets.specs.Limits.{end_second}
use Rattle.plan_write.specs.Quiet.{gaps}
use Rattle.plan_write.specs.Upcoming.{AreUpcoming}
use Rattle.plan_write.specs.declared.JobFile.{JobFile}
use Rattle.agenda_faults.specs.declared.faults.RunFault.{RunFault}
use Rattle.agenda_table.specs.Dates.{AreDatesOf, gap_times, job_times}
use Rattle.agenda_table.specs.Last.{after_text, span_text}
use Rattle.agenda_table.specs.Layout.{table_text}
use Rattle.agenda_table.specs.Rows.{JobTexts, LookParts, gap_rows, job_rows, job_texts, start_rows}
use Rattle.agenda_table.specs.Scripts.{texts_of_jobs}
use Rattle.agenda_commands.specs.Goal.{AnswersPlan, agenda_of_jobs}
use Rattle.agenda_commands.specs.declared.goal.Goal.{Goal}
use Rattle.agenda_commands.specs.declared.goal.Goal.TheVariants as goal
use Rattle.agenda_commands.specs.declared.table.MadeTable.{MadeTable}
use Rattle.agenda_commands.specs.declared.table.TableForm.{TableForm}
use Rattle.agenda_commands.specs.declared.table.TableRows.{TableRows}
use Rattle.agenda_commands.specs.declared.table.TableRows.TheVariants as rows

-- how the times of a table are shown, with their offset on these dates
abbrev pub look_of : TableForm → (dates : List ℕ) → LookParts
look_of form dates = record { clock = form.zone.clock; dates = dates; origin = form.origin }

-- the text of a table with these rows, and this last line
abbrev pub text_of_rows : TableForm → List (List (List ℕ)) → (last : List ℕ) → List ℕ
text_of_rows form rows last = table_text form.frame.columns form.frame.terminal rows (chars last)

-- ---- the answer

-- what the rows of jobs have of them, with the names of their scripts if their files are given
abbrev pub texts_of : (files : Option (List JobFile)) → List JobParts → List JobTexts
texts_of None jobs = map job_texts jobs
texts_of (Some files) jobs = texts_of_jobs files jobs

-- this is the table of an agenda of jobs
abbrev pub IsPlanTable : TableForm → (files : Option (List JobFile)) → (delays : Bool) → Planned → List JobParts → List ℕ → Type 0
IsPlanTable form files delays made jobs text =
    (dates : List ℕ)
    × AreDatesOf form.zone.clock (made.span.since ∷ made.span.upto ∷ job_times delays made.entries (texts_of files jobs)) dates
    × (text ≡ text_of_rows form (job_rows (look_of form dates) delays made.entries (texts_of files jobs))
    (span_text (look_of form dates) (length made.entries) (codes "start") made.span.since made.span.upto form.zone.name))

-- this is the table of what jobs miss while the machine is down for the span of their agenda
abbrev pub IsDowntimeTable : TableForm → Planned → List JobParts → List ℕ → Type 0
IsDowntimeTable form made jobs text =
    (dates : List ℕ)
    × AreDatesOf form.zone.clock
    (made.span.since ∷ made.span.upto ∷ missed_times (missed_texts jobs (missed_starts jobs made))) dates
    × (text ≡ text_of_rows form (downtime_rows (look_of form dates) (missed_texts jobs (missed_starts jobs made)))
    (missed_text (look_of form dates) (missed_texts jobs (missed_starts jobs made)) made.span.since made.span.upto form.zone.name))

-- this is the table of how an agenda, whose jobs have these names and run these texts, differs from an earlier one
abbrev pub IsChangesTable : TableForm → (before : List Line) → Planned → (jobs : List (List ℕ × List ℕ)) → List ℕ → Type 0
IsChangesTable form before made jobs text =
    (changes : List StartChange) × AreChanges before (lines_of jobs made.entries) changes × (dates : List ℕ)
    × AreDatesOf form.zone.clock
    (made.span.since ∷ made.span.upto ∷ change_times (runs_changes before (lines_of jobs made.entries) changes)) dates
    × (text ≡ text_of_rows form (change_rows (look_of form dates) (runs_changes before (lines_of jobs made.entries) changes))
    (change_text (look_of form dates) changes made.span.since made.span.upto form.zone.name))

-- this is the table of a view of an agenda of jobs; a view without a table of its own has that of all starts
abbrev pub IsViewTable :
    PlanView → TableForm → (files : Option (List JobFile)) → (delays : Bool) → Planned → List JobParts → List ℕ → Type 0
IsViewTable view.Downtime form files delays made jobs text = IsDowntimeTable form made jobs text
IsViewTable other form files delays made jobs text = IsPlanTable form files delays made jobs text

-- this is the table of the next starts of jobs after a time; a time after the planner's years is shown as their end
abbrev pub IsNextsTable :
    TableForm → (files : Option (List JobFile)) → List JobParts → (after : ℕ) → (delays : Bool) → List ℕ → Type 0
IsNextsTable form files jobs after delays text =
    (nexts : List (ℕ × ℕ)) × AreUpcoming jobs after nexts × (dates : List ℕ)
    × AreDatesOf form.zone.clock (min after end_second ∷ job_times delays nexts (texts_of files jobs)) dates
    × (text ≡ text_of_rows form (job_rows (look_of form dates) delays nexts (texts_of files jobs))
    (after_text (look_of form dates) (length nexts) (codes "job") (min after end_second) form.zone.name))

-- this is the table of the gaps of an agenda of jobs that last at least `least` seconds
abbrev pub IsQuietTable : TableForm → (least : ℕ) → Planned → List JobParts → List ℕ → Type 0
IsQuietTable form least made jobs text =
    (dates : List ℕ)
    × AreDatesOf form.zone.clock (made.span.since ∷ made.span.upto ∷ gap_times (gaps least made jobs)) dates
    × (text ≡ text_of_rows form (gap_rows (look_of form dates) (gaps least made jobs))
    (span_text (look_of form dates) (length (gaps least made jobs)) (codes "gap") made.span.since made.span.upto form.zone.name))

-- this is the table of these starts of a rule after a time, of which so many are requested; a time after the planner's years is
-- shown as their end
abbrev pub IsStartsTable : TableForm → (after count : ℕ) → (starts : List ℕ) → List ℕ → Type 0
IsStartsTable form after count starts text =
    (dates : List ℕ) × AreDatesOf form.zone.clock (min after end_second ∷ starts) dates
    × (text ≡ text_of_rows form (start_rows (look_of form dates) count starts)
    (after_text (look_of form dates) (length starts) (codes "start") (min after end_second) form.zone.name))

-- the answer for jobs, with their files if these are given, or the first error: that of the jobs, or else that of the goal. The next
-- starts of jobs have none, and what is missed, gaps and changes have no files. The scripts of jobs have no table
abbrev pub AnswersTable :
    (files : Option (List JobFile)) → TableForm → Goal → Result (List JobParts) RunFault → Result (List ℕ) RunFault → Type 0
AnswersTable files form goal (Err fault) answer = Err fault ≡ answer
AnswersTable files form (goal.Plan planning view) (Ok jobs) answer =
    AnswersPlan (λ made text. IsViewTable view form files planning.delays made (counted planning.delays jobs) text)
    (agenda_of_jobs (counted planning.delays jobs) planning) answer
AnswersTable files form (goal.Upcoming after delays) (Ok jobs) (Ok text) = IsNextsTable form files jobs after delays text
AnswersTable files form (goal.Upcoming after delays) (Ok jobs) (Err fault) = ⊥
AnswersTable files form (goal.Scripts after) (Ok jobs) answer = ⊥
AnswersTable files form (goal.Changes planning before) (Ok jobs) answer =
    AnswersPlan (λ made text. IsChangesTable form before.lines made (map line_texts (counted planning.delays jobs)) text)
    (agenda_of_jobs (counted planning.delays jobs) planning) answer
AnswersTable files form (goal.Quiet planning least) (Ok jobs) answer =
    AnswersPlan (λ made text. IsQuietTable form least made (counted planning.delays jobs) text)
    (agenda_of_jobs (counted planning.delays jobs) planning) answer

-- ---- the table before it is written

-- its rows
abbrev pub rows_of_table : LookParts → TableRows → List (List (List ℕ))
rows_of_table look (rows.Plan agenda cells delays) = job_rows look delays agenda.entries cells
rows_of_table look (rows.Downtime missed) = downtime_rows look missed
rows_of_table look (rows.Changes changes) = change_rows look changes
rows_of_table look (rows.Upcoming nexts cells delays) = job_rows look delays nexts cells
rows_of_table look (rows.Quiet gaps) = gap_rows look gaps
rows_of_table look (rows.Next starts count) = start_rows look count starts.items

-- its text
abbrev pub text_of_table : TableForm → MadeTable → List ℕ
text_of_table form made = text_of_rows form (rows_of_table (look_of form made.dates.items) made.rows) made.last
