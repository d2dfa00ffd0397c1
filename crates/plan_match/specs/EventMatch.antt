-- The civil fields that a calendar event matches (systemd.time(7), calendar events).
use Rattle.std.specs.Prelude.{ℕ, ◌+◌, ◌-◌, Bool, true, ◌&&◌, IsTrue, List, Option, Some, None}
use Rattle.std.specs.List.{list_any}
use Rattle.plan_sets.specs.declared.civil.Civil.{Civil}
use Rattle.plan_sets.specs.Civil.{length_of_month}
use Rattle.plan_sets.specs.Items.{is_within}
use Rattle.plan_sets.specs.Limits.{first_year, last_year}
use Rattle.plan_sets.specs.Values.{Values as SetOfValues, has_value}
use Rattle.plan_match.specs.declared.event.DayCount.{DayCount}
use Rattle.plan_match.specs.declared.event.DayCount.TheVariants.{FromStart, FromEnd}
use Rattle.plan_match.specs.declared.event.Calendar.{Calendar}

-- the place of a day from the end of its month, where 1 is the month's last day (systemd.time(7), `~`)
abbrev pub place_from_end : Civil → ℕ
place_from_end civil = length_of_month civil.year civil.month - civil.day + 1

-- whether the calendar has the day of the civil fields, in the years of the planner (agenda); it always has the day of a second
abbrev pub is_day : Civil → Bool
is_day civil =
    is_within first_year last_year civil.year
    && (is_within 1 12 civil.month && is_within 1 (length_of_month civil.year civil.month) civil.day)

-- whether the list of days contains the day, counted from the start or from the end of the month (systemd.time(7), `~`)
abbrev pub month_day_matches : DayCount → SetOfValues → Civil → Bool
month_day_matches FromStart days civil = has_value days civil.day
month_day_matches FromEnd days civil = is_day civil && has_value days (place_from_end civil)

-- if there is a weekday part, the weekday must be in it, from 0 for Monday (systemd.time(7))
abbrev pub weekday_matches : Option SetOfValues → Civil → Bool
weekday_matches None civil = true
weekday_matches (Some weekdays) civil = has_value weekdays civil.weekday

-- an event may start on a day whose year, month, day and weekday match (systemd.time(7))
abbrev pub event_day_matches : Calendar → Civil → Bool
event_day_matches event civil =
    has_value event.years civil.year
    && (has_value event.months civil.month
    && (month_day_matches event.day_count event.days civil && weekday_matches event.weekdays civil))

-- an event matches: the day and the time of day both match (systemd.time(7))
abbrev pub event_matches : Calendar → Civil → Bool
event_matches event civil =
    event_day_matches event civil
    && (has_value event.hours civil.hour
    && (has_value event.minutes civil.minute && has_value event.seconds civil.second))

-- the time of day of a start: hour, minute and second match
abbrev pub HasEventTime : Calendar → Civil → Type 0
HasEventTime event civil =
    IsTrue (has_value event.hours civil.hour)
    × IsTrue (has_value event.minutes civil.minute)
    × IsTrue (has_value event.seconds civil.second)

-- some event of a list matches (systemd.timer(5), `OnCalendar=`)
abbrev pub some_event_matches : List Calendar → Civil → Bool
some_event_matches events civil = list_any (λ event. event_matches event civil) events
