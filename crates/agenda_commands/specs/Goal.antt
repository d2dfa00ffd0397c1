-- What is made of jobs, by a goal: its text and its errors. All of it is our choice (agenda).
use Rattle.std.specs.Prelude.{◌≡◌, ◌≢◌, ⊤, ℕ, not, ◌==◌, if◌then◌else◌, Bool, true, false, List, [], is_some, length, map, Option, None, Some, Result, Ok, Err}
use Rattle.std.specs.List.{cons_option}
use Rattle.plan_texts.specs.Steps.{◌>>=◌}
use Rattle.plan_rules.specs.Job.{JobParts}
use Rattle.plan_rules.specs.Delays.{counted}
use Rattle.plan_clock.specs.declared.row.Change.{Change}
use Rattle.plan_collect.specs.Agenda.{IsInYears, IsOfJobs, Planned}
use Rattle.plan_collect.specs.Planning.{plan_answer, valid_sizes}
use Rattle.plan_collect.specs.Windows.{agenda_of_windows, timings_of}
use Rattle.plan_collect.specs.declared.PlanView.{PlanView}
use Rattle.plan_collect.specs.declared.PlanView.TheVariants as view
use Rattle.plan_clear.specs.First as clear
use Rattle.plan_downtime.specs.Downtime.{missed_starts}
use Rattle.plan_downtime.specs.Lines.{downtime_text}
use Rattle.plan_rules.specs.declared.NamedZone.{NamedZone}
use Rattle.plan_baseline.specs.Line.{Line}
use Rattle.plan_changes.specs.Changes.{AreChanges, have_changed}
use Rattle.plan_changes.specs.declared.Change.{Change as StartChange}
use Rattle.plan_changes.specs.Lines.{job_texts, lines_of as lines_of_entries}
use Rattle.plan_changes.specs.Texts.{changes_text}
use Rattle.plan_week.specs.Week.{week_of}
use Rattle.plan_week.specs.Texts.{week_text}
use Rattle.plan_collect.specs.declared.sizes.Sizes.{Sizes}
use Rattle.plan_write.specs.Quiet.{quiet_text}
use Rattle.plan_write.specs.Scripts.{ScriptParts, scripts_of_jobs, scripts_text}
use Rattle.plan_write.specs.Texts.{EndParts, line_end, lines_of, object_ends, text_by_ends}
use Rattle.plan_write.specs.Upcoming.{AreUpcoming, upcoming_text}
use Rattle.plan_write.specs.declared.Format.{Format}
use Rattle.plan_write.specs.declared.JobFile.{JobFile}
use Rattle.agenda_faults.specs.declared.faults.RunFault.{RunFault}
use Rattle.agenda_faults.specs.declared.faults.RunFault.TheVariants.{BadLeast, NoMemory}
use Rattle.agenda_faults.specs.Faults.{fault_of_plan}
use Rattle.agenda_commands.specs.declared.goal.Goal.{Goal}
use Rattle.agenda_commands.specs.declared.goal.Goal.TheVariants as goal
use Rattle.agenda_commands.specs.declared.goal.Planning.{Planning}
use Rattle.agenda_commands.specs.declared.goal.Made.{Made}
use Rattle.agenda_commands.specs.declared.goal.Made.TheVariants as made
use Rattle.agenda_commands.specs.Command.{step}

-- ---- the numbers of a goal

-- the sizes of a plan, if they are valid: its first error, which is found before any memory is requested
abbrev pub checked_sizes : Planning → Result Sizes RunFault
checked_sizes planning = step fault_of_plan (valid_sizes planning.sizes)

-- the minimum length of a gap is at least 1 second
abbrev pub valid_goal : Goal → Result (Unit {0}) RunFault
valid_goal (goal.Quiet planning least) = if least == 0 then Err BadLeast else Ok tt
valid_goal other = Ok tt

-- the answer has a table of its own. The hours of a week, a first entry and the scripts of jobs alone are lines in each form
abbrev pub has_table : Goal → Bool
has_table (goal.Plan planning view.Week) = false
has_table (goal.Plan planning view.First) = false
has_table (goal.Scripts after) = false
has_table other = true

-- the sizes of the goal's plan are valid
abbrev pub sized_goal : Goal → Result Goal RunFault
sized_goal (goal.Plan planning view) = do
  sizes ← checked_sizes planning
  Ok (goal.Plan planning view)
sized_goal (goal.Upcoming after delays) = Ok (goal.Upcoming after delays)
sized_goal (goal.Scripts after) = Ok (goal.Scripts after)
sized_goal (goal.Quiet planning least) = do
  sizes ← checked_sizes planning
  Ok (goal.Quiet planning least)
sized_goal (goal.Changes planning before) = do
  sizes ← checked_sizes planning
  Ok (goal.Changes planning before)

-- all numbers of the goal are valid: the minimum length of a gap is checked first
abbrev pub checked_goal : Goal → Result Goal RunFault
checked_goal goal = do
  valid ← valid_goal goal
  sized_goal goal

-- ---- the answer

-- the agenda of the jobs that are planned, or the first error of the plan
abbrev pub agenda_of_jobs : List JobParts → Planning → Result Planned RunFault
agenda_of_jobs jobs planning = step fault_of_plan (plan_answer (timings_of jobs) planning.span planning.sizes)

-- the ends of the lines of jobs in a format. In JSON they have the files of the jobs, if these are given; text is the same without them
abbrev pub ends_of : Format → (files : Option (List JobFile)) → List JobParts → List EndParts
ends_of format None jobs = map (line_end format.json) jobs
ends_of format (Some files) jobs = if format.json then object_ends files jobs else map (line_end format.json) jobs

-- what `plan` writes for the jobs that are planned: their agenda
abbrev pub plan_output : Format → (files : Option (List JobFile)) → List JobParts → Planning → Result (List ℕ) RunFault
plan_output format files jobs planning = do
  made ← agenda_of_jobs jobs planning
  Ok (text_by_ends format planning.delays made (ends_of format files jobs))

-- what `downtime` writes for the jobs that are planned: what each of them misses
abbrev pub downtime_output : Format → (files : Option (List JobFile)) → List JobParts → Planning → Result (List ℕ) RunFault
downtime_output format files jobs planning = do
  made ← agenda_of_jobs jobs planning
  Ok (downtime_text format (ends_of format files jobs) (missed_starts jobs made))

-- the clock by which times are shown: that of a zone if one is given, and otherwise UTC
abbrev pub clock_of : (local : Option NamedZone) → List Change
clock_of None = []
clock_of (Some zone) = zone.clock

-- what `week` writes for the jobs that are planned: the starts of each hour
abbrev pub week_output : Format → List JobParts → Planning → Result (List ℕ) RunFault
week_output format jobs planning = do
  made ← agenda_of_jobs jobs planning
  Ok (week_text format (week_of (clock_of format.local) made) made)

-- the first entry of the agenda of the jobs that are planned, if it has one. A start of a cron job counts as the whole minute
abbrev pub first_of : List JobParts → Planning → Option (ℕ × ℕ)
first_of jobs planning = clear.first_of jobs planning.span

-- the lines of entries of an agenda of jobs
abbrev pub agenda_lines : List JobParts → (entries : List (ℕ × ℕ)) → List Line
agenda_lines jobs entries = lines_of_entries (map job_texts jobs) entries

-- the lines of the starts of jobs in the span of a plan
abbrev pub lines_of_plan : List JobParts → Planning → List Line
lines_of_plan jobs planning = agenda_lines jobs (agenda_of_windows (timings_of jobs) planning.span)

-- whether the answer for jobs says that one may start in the span, or that the agenda has changed: only the first entry and changes are
-- asked for that
abbrev pub finds_any : Goal → List JobParts → Bool
finds_any (goal.Plan planning view.First) jobs = is_some (first_of (counted planning.delays jobs) planning)
finds_any (goal.Changes planning before) jobs = have_changed before.lines (lines_of_plan (counted planning.delays jobs) planning)
finds_any other jobs = false

-- the same, if there are jobs
abbrev pub finds_in : Goal → Result (List JobParts) RunFault → Bool
finds_in goal (Err fault) = false
finds_in goal (Ok jobs) = finds_any goal jobs

-- what `clear` writes for the jobs that are planned: the line of the first entry. The limit of entries doesn't count
abbrev pub first_output : Format → (files : Option (List JobFile)) → List JobParts → Planning → Result (List ℕ) RunFault
first_output format files jobs planning = do
  sizes ← checked_sizes planning
  Ok (lines_of format planning.delays (cons_option (first_of jobs planning) []) (ends_of format files jobs))

-- what a view of the agenda is, for the jobs that are planned
abbrev pub view_output : PlanView → Format → (files : Option (List JobFile)) → List JobParts → Planning → Result (List ℕ) RunFault
view_output view.Starts format files jobs planning = plan_output format files jobs planning
view_output view.Downtime format files jobs planning = downtime_output format files jobs planning
view_output view.Week format files jobs planning = week_output format jobs planning
view_output view.First format files jobs planning = first_output format files jobs planning

-- what `quiet` writes for the jobs that are planned: the gaps of their agenda that last at least `least` seconds
abbrev pub quiet_output : Format → List JobParts → Planning → (least : ℕ) → Result (List ℕ) RunFault
quiet_output format jobs planning least = do
  made ← agenda_of_jobs jobs planning
  Ok (quiet_text format least made jobs)

-- what `upcoming` writes for jobs: when each of them starts next
abbrev pub IsTextOfNexts :
    Format → (files : Option (List JobFile)) → List JobParts → (after : ℕ) → (delays : Bool) → List ℕ → Type 0
IsTextOfNexts format files jobs after delays text =
    (nexts : List (ℕ × ℕ)) × AreUpcoming jobs after nexts × (text ≡ upcoming_text format delays nexts (ends_of format files jobs))

-- the scripts of jobs; without files no job has scripts
abbrev pub given_scripts : (files : Option (List JobFile)) → List JobParts → List ScriptParts
given_scripts None jobs = scripts_of_jobs [] jobs
given_scripts (Some files) jobs = scripts_of_jobs files jobs

-- what `scripts` writes for jobs: the scripts that each of them starts by run-parts, by when the jobs start next
abbrev pub IsTextOfScripts : Format → (files : Option (List JobFile)) → List JobParts → (after : ℕ) → List ℕ → Type 0
IsTextOfScripts format files jobs after text =
    (nexts : List (ℕ × ℕ)) × AreUpcoming jobs after nexts × (text ≡ scripts_text format.local nexts (given_scripts files jobs))

-- what `changes` writes for an agenda of jobs: how it differs from an earlier one
abbrev pub IsTextOfChanges : Format → (before : List Line) → List JobParts → Planned → List ℕ → Type 0
IsTextOfChanges format before jobs made text =
    (changes : List StartChange) × AreChanges before (agenda_lines jobs made.entries) changes
    × (text ≡ changes_text format before (agenda_lines jobs made.entries) changes)

-- this is a text of what is planned, or the first error of the plan
abbrev pub AnswersPlan : (Planned → List ℕ → Type 0) → Result Planned RunFault → Result (List ℕ) RunFault → Type 0
AnswersPlan IsText (Ok made) (Ok text) = IsText made text
AnswersPlan IsText (Err fault) (Err found) = fault ≡ found
AnswersPlan IsText made answer = ⊥

-- the answer for jobs, with their files if these are given, or the first error: that of the jobs, or else that of the goal. The next
-- starts of jobs and their scripts have none, and gaps and changes have no files
abbrev pub AnswersWithFiles :
    (files : Option (List JobFile)) → Format → Goal → Result (List JobParts) RunFault → Result (List ℕ) RunFault → Type 0
AnswersWithFiles files format goal (Err fault) answer = Err fault ≡ answer
AnswersWithFiles files format (goal.Plan planning view) (Ok jobs) answer =
    view_output view format files (counted planning.delays jobs) planning ≡ answer
AnswersWithFiles files format (goal.Upcoming after delays) (Ok jobs) (Ok text) = IsTextOfNexts format files jobs after delays text
AnswersWithFiles files format (goal.Upcoming after delays) (Ok jobs) (Err fault) = ⊥
AnswersWithFiles files format (goal.Scripts after) (Ok jobs) (Ok text) = IsTextOfScripts format files jobs after text
AnswersWithFiles files format (goal.Scripts after) (Ok jobs) (Err fault) = ⊥
AnswersWithFiles files format (goal.Quiet planning least) (Ok jobs) answer =
    quiet_output format (counted planning.delays jobs) planning least ≡ answer
AnswersWithFiles files format (goal.Changes planning before) (Ok jobs) answer =
    AnswersPlan (λ made text. IsTextOfChanges format before.lines (counted planning.delays jobs) made text)
    (agenda_of_jobs (counted planning.delays jobs) planning) answer

-- the answer without files
abbrev pub AnswersGoal : Format → Goal → Result (List JobParts) RunFault → Result (List ℕ) RunFault → Type 0
AnswersGoal format goal jobs answer = AnswersWithFiles None format goal jobs answer

-- the same once the minimum length of a gap was checked
abbrev pub checked_jobs : Goal → Result (List JobParts) RunFault → Result (List JobParts) RunFault
checked_jobs goal jobs = do
  valid ← valid_goal goal
  jobs

-- what is made is an answer, unless an allocation failed
abbrev pub Makes : {A : Type 0} → (Result (List ℕ) RunFault → Type 0) → (A → List ℕ) → Result A RunFault → Type 0
Makes Answers view (Ok made) = Answers (Ok (view made))
Makes Answers view (Err fault) = fault ≢ NoMemory → Answers (Err fault)

-- ---- the result before it is written

-- its text, in its format
abbrev pub text_of : Format → Made → List ℕ
text_of format (made.Plan agenda ends delays) = text_by_ends format delays agenda ends
text_of format (made.Downtime missed ends) = downtime_text format ends missed.items
text_of format (made.Week agenda week) = week_text format week agenda
text_of format (made.First first ends delays) = lines_of format delays (cons_option first []) ends
text_of format (made.Upcoming nexts ends delays) = upcoming_text format delays nexts ends
text_of format (made.Scripts nexts scripts) = scripts_text format.local nexts scripts
text_of format (made.Quiet agenda jobs least) = quiet_text format least agenda jobs
text_of format (made.Changes changes before agenda lines) =
    changes_text format before.lines (lines_of_entries lines agenda.entries) changes.items

-- whether it says that a job may start in the span, or that something has changed
abbrev pub finds : Made → Bool
finds (made.First first ends delays) = is_some first
finds (made.Changes changes before agenda lines) = not (length changes.items == 0)
finds other = false

-- an agenda is one of as many jobs as there are ends of lines, and a first entry is in the planner's years
abbrev pub CanBeWritten : Made → Type 0
CanBeWritten (made.Plan agenda ends delays) = IsOfJobs (length ends) agenda.entries
CanBeWritten (made.First first ends delays) = IsInYears (cons_option first [])
CanBeWritten other = ⊤
