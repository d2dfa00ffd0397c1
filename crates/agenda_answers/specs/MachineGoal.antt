-- What is asked about the jobs of a machine, once the times and the length were read. All of it is our choice (agenda).
use Rattle.std.specs.Prelude.{◌≡◌, ℕ, ◌<◌, nat_le, ◌==◌, ◌&&◌, Bool, true, false, List, Option, None, Some, Result, Ok, Err}
use Rattle.plan_clock.specs.declared.row.Change.{Change}
use Rattle.plan_collect.specs.Span.{Bounds}
use Rattle.plan_collect.specs.declared.PlanView.{PlanView}
use Rattle.plan_collect.specs.declared.PlanView.TheVariants as view
use Rattle.plan_collect.specs.declared.Sizes.{Sizes}
use Rattle.plan_sets.specs.Limits.{end_second}
use Rattle.plan_times.specs.Forms.{form_of, length_of}
use Rattle.plan_times.specs.Times.{IsSince, IsUntil}
use Rattle.plan_times.specs.declared.fault.TimeFault.{TimeFault}
use Rattle.plan_write.specs.LocalTimes.{local_text}
use Rattle.agenda_arguments.specs.declared.MachineGoal.{MachineGoal}
use Rattle.agenda_arguments.specs.declared.MachineGoal.TheVariants.{Upcoming, Plan, Quiet, Changes, Scripts}
use Rattle.agenda_arguments.specs.declared.MachineJobs.{MachineJobs}
use Rattle.agenda_arguments.specs.declared.SpanRequest.{SpanRequest}
use Rattle.agenda_commands.specs.declared.Goal.{Goal}
use Rattle.agenda_commands.specs.declared.Goal.TheVariants as goal
use Rattle.agenda_faults.specs.declared.faults.Failure.TheVariants.{Machine}
use Rattle.agenda_faults.specs.declared.machine_faults.MachineFault.TheVariants.{Time, Length, Number, Backwards, EmptySpan, Clock}
use Rattle.agenda_faults.specs.MachineLines.{most_of}
use Rattle.agenda_faults.specs.declared.machine_faults.NumberOption.{NumberOption}
use Rattle.agenda_faults.specs.declared.machine_faults.NumberOption.TheVariants.{Planners, Room, Limit}
use Rattle.agenda_faults.specs.declared.machine_faults.TimeOption.{TimeOption}
use Rattle.agenda_faults.specs.declared.machine_faults.TimeOption.TheVariants as option
use Rattle.agenda_inputs.specs.Baselines.{baseline_of}
use Rattle.agenda_inputs.specs.Files.{Held}
use Rattle.agenda_inputs.specs.MachineZone.{fails_with}
use Rattle.agenda_answers.specs.Changes.{changes_since}
use Rattle.agenda_inputs.specs.Steps.{Step, computes, fails, gives, ◌>>=◌}

-- a time of the system clock, if it is in the planner's years
abbrev pub present_if : (is_in_years : Bool) → (time : ℕ) → Step ℕ
present_if true time = gives time
present_if false time = fails (Machine Clock)

-- the time that the system clock shows
abbrev pub present : (time : ℕ) → Step ℕ
present time = present_if (nat_le time end_second) time

-- the time of an option's text, or what is wrong with the text, for which an allocation may fail
abbrev pub time_read : TimeOption → (text : List ℕ) → (Result ℕ TimeFault → Type 0) → Step ℕ
time_read option text Means (Ok time) = Means (Ok time)
time_read option text Means (Err failure) =
    (fault : TimeFault) × Means (Err fault) × fails_with {X = ℕ} (Machine (Time option fault text)) (Err failure)

-- the time of an option, at which a span starts or after which starts are listed
abbrev pub since_at : TimeOption → (now : ℕ) → (clock : List Change) → (text : List ℕ) → Step ℕ
since_at option now clock text = time_read option text (IsSince clock now (form_of text))

-- the time after which starts are listed
abbrev pub after_at : (time : ℕ) → (clock : List Change) → (text : List ℕ) → Step ℕ
after_at time clock text = do
  now ← present time
  since_at option.After now clock text

-- the end of a span that starts at a time
abbrev pub until_at : (since now : ℕ) → (clock : List Change) → (text : List ℕ) → Step ℕ
until_at since now clock text = time_read option.Until text (IsUntil clock since now (form_of text))

-- two times bound a span unless the second is earlier
abbrev pub bounded_by : (clock : List Change) → (since until : ℕ) → Step Bounds
bounded_by clock since until (Ok span) = span ≡ record { since = since; upto = until }
bounded_by clock since until (Err failure) = (failure ≡ Machine (Backwards (local_text clock since))) × (until < since)

-- the span of a plan: its start is read first, and its end may count from it
abbrev pub span_at : (now : ℕ) → (clock : List Change) → SpanRequest → Step Bounds
span_at now clock span = do
  since ← since_at option.Since now clock span.since
  until ← until_at since now clock span.until
  bounded_by clock since until

-- a span that is to be clear has a second
abbrev pub filled_if : (is_empty : Bool) → (clock : List Change) → Bounds → Step Bounds
filled_if true clock span = fails (Machine (EmptySpan (local_text clock span.since)))
filled_if false clock span = gives span

abbrev pub filled_by : PlanView → (clock : List Change) → Bounds → Step Bounds
filled_by view.First clock span = filled_if (span.since == span.upto) clock span
filled_by view clock span = gives span

-- the minimum length of a gap, by the length that its text is
abbrev pub least_of : (text : List ℕ) → (length : Option ℕ) → Step ℕ
least_of text (Some least) = gives least
least_of text None = fails_with (Machine (Length text))

-- a number of an option, if it is in its range
abbrev pub number_if : (is_in_range : Bool) → NumberOption → (number : ℕ) → Step ℕ
number_if true option number = gives number
number_if false option number = fails (Machine (Number option number))

-- the number of an option
abbrev pub number_in : NumberOption → (number : ℕ) → Step ℕ
number_in option number = number_if (nat_le 1 number && nat_le number (most_of option)) option number

-- the sizes of a plan, each of which has its range
abbrev pub sizes_in : Sizes → Step Sizes
sizes_in sizes = do
  planners ← number_in Planners sizes.planners
  room ← number_in Room sizes.room
  limit ← number_in Limit sizes.limit
  gives sizes

-- what is made of jobs; an earlier agenda is read from its file
abbrev pub goal_by : Held → (now : ℕ) → (clock : List Change) → (delays : Bool) → MachineGoal → Step Goal
goal_by held now clock delays (Upcoming after) = do
  moment ← since_at option.After now clock after
  gives (goal.Upcoming moment delays)
goal_by held now clock delays (Scripts after) = do
  moment ← since_at option.After now clock after
  gives (goal.Scripts moment)
goal_by held now clock delays (Plan span sizes view) = do
  bounds ← span_at now clock span
  filled ← filled_by view clock bounds
  valid ← sizes_in sizes
  gives (goal.Plan (record { span = filled; sizes = valid; delays = delays }) view)
goal_by held now clock delays (Quiet span sizes least) = do
  bounds ← span_at now clock span
  seconds ← least_of least (length_of least)
  valid ← sizes_in sizes
  gives (goal.Quiet (record { span = bounds; sizes = valid; delays = delays }) seconds)
goal_by held now clock delays (Changes before sizes) = do
  listing ← baseline_of held before
  valid ← sizes_in sizes
  computes (changes_since listing valid delays)

-- the same, as it is asked, at the time that the system clock shows
abbrev pub goal_at : Held → (time : ℕ) → (clock : List Change) → MachineJobs → Step Goal
goal_at held time clock jobs = do
  now ← present time
  goal_by held now clock jobs.delays jobs.goal
