-- What holds for every week (agenda).
use Rattle.std.specs.Prelude.{◌≡◌, ℕ, ◌/◌, ◌%◌, ◌==◌, ◌≤◌, ◌<◌, ◌&&◌, nat_lt, Bool, true, List, count_by, length, Some, slice_get}
use Rattle.std.specs.List.{list_any}
use Rattle.plan_clock.specs.declared.row.Change.{Change}
use Rattle.plan_collect.specs.Agenda.{Planned, agenda, planned}
use Rattle.plan_collect.specs.Windows.{planned_windows, timings_of}
use Rattle.plan_match.specs.declared.rule.Rule.{Rule}
use Rattle.plan_next.specs.Span.{Bounds}
use Rattle.plan_next.specs.Starts.{is_start}
use Rattle.plan_rules.specs.Job.{JobParts}
use Rattle.plan_sets.specs.Limits.{end_second, seconds_a_day}
use Rattle.plan_week.specs.Hours.{local_second}
use Rattle.plan_week.specs.Texts.{at_hour}
use Rattle.plan_week.specs.Week.{count_of, is_inside, week_of, week_sum}
use Rattle.plan_week.specs.declared.day.Day.{Day}

-- the sum of all days is the number of entries in the span
abbrev pub SumIsOfEntries : Type 0
SumIsOfEntries = (clock : List Change) (made : Planned) → made.span.upto ≤ end_second
    → week_sum (week_of clock made) ≡ count_by (λ entry. is_inside made.span entry.0) made.entries

-- without delays all entries are in the span, so the sum of all days is their number
abbrev pub SumIsOfAllWithoutDelays : Type 0
SumIsOfAllWithoutDelays = (clock : List Change) (rules : List Rule) (span : Bounds) → span.upto ≤ end_second
    → week_sum (week_of clock (planned rules span)) ≡ length (agenda rules span)

-- whether a day is the one that a clock shows at a local second, and has a start in the hour of that second
abbrev pub has_start_at : (local : ℕ) → Day → Bool
has_start_at local day =
    (day.number == local / seconds_a_day) && nat_lt 0 (count_of (at_hour (local % seconds_a_day / 3600) day))

-- each start of a job in the span is counted on the day and in the hour that the clock shows at it
abbrev pub StartsAreInTheirHours : Type 0
StartsAreInTheirHours = (clock : List Change) (jobs : List JobParts) (span : Bounds) (number second : ℕ) (job : JobParts)
    → span.upto ≤ end_second → slice_get jobs number ≡ Some job → is_start job.rule second ≡ true
    → span.since ≤ second → second < span.upto
    → list_any (has_start_at (local_second clock second)) (week_of clock (planned_windows (timings_of jobs) span)) ≡ true
