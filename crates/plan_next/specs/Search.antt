-- What a pattern matches (agenda): each field by itself, and the fields that the search combines; and the months that
-- it goes through.
use Rattle.std.specs.Prelude.{◌≡◌, ℕ, ◌+◌, ◌-◌, ◌*◌, ◌/◌, ◌%◌, ◌<◌, ◌≤◌, Bool, true, false, ◌&&◌, ◌==◌, List, Option, Some, None}
use Rattle.plan_sets.specs.Values.{has_value, Values}
use Rattle.plan_sets.specs.Limits.{first_year, last_year, end_second, seconds_a_day}
use Rattle.plan_sets.specs.Civil.{civil_fields}
use Rattle.plan_sets.specs.Months.{days_of_month, IsFirstDay}
use Rattle.plan_sets.specs.declared.civil.Civil.{Civil}
use Rattle.plan_clock.specs.declared.row.Change.{Change}
use Rattle.plan_clock.specs.declared.row.Row.{Row}
use Rattle.plan_clock.specs.Rows.{most_offset, row_at}
use Rattle.plan_match.specs.Heeds.{cron_heeds, event_heeds}
use Rattle.plan_match.specs.Match.{cron_matches, day_matches}
use Rattle.plan_next.specs.Starts.{is_shown, starts_in, NoneIn}
use Rattle.plan_match.specs.declared.cron.CronRule.{CronRule}
use Rattle.plan_next.specs.declared.month.Month.{Month}
use Rattle.plan_next.specs.declared.search.Pattern.{Pattern}
use Rattle.plan_next.specs.declared.zone.Plain.{Plain}
use Rattle.plan_next.specs.declared.search.Pattern.TheVariants.{Cron, Event}
use Rattle.plan_match.specs.EventMatch.{event_day_matches, event_matches}

-- the month after the last year; January of the year 0 is month 0
abbrev pub end_month : ℕ
end_month = (last_year + 1) * 12

-- the day after the last year
abbrev pub end_day : ℕ
end_day = end_second / seconds_a_day

-- the pattern matches a year; a cron rule matches every year
abbrev pub admits_year : Pattern → ℕ → Bool
admits_year (Cron rule) year = true
admits_year (Event event) year = has_value event.now.years year

-- the pattern matches a month of a year, from 1
abbrev pub admits_month : Pattern → ℕ → Bool
admits_month (Cron rule) month = has_value rule.now.months month
admits_month (Event event) month = has_value event.now.months month

-- the pattern matches a date: it reads the year, month, day and weekday of civil fields
abbrev pub admits_date : Pattern → Civil → Bool
admits_date (Cron rule) civil = day_matches rule.now civil
admits_date (Event event) civil = event_day_matches event.now civil

-- one of two day fields is enough to match a day: those of a cron rule that are both restricted
abbrev pub takes_either : Pattern → Bool
takes_either (Cron rule) = rule.now.month_days_restricted && rule.now.week_days_restricted
takes_either (Event event) = false

-- the pattern matches an hour of a day
abbrev pub admits_hour : Pattern → ℕ → Bool
admits_hour (Cron rule) hour = has_value rule.now.hours hour
admits_hour (Event event) hour = has_value event.now.hours hour

-- the pattern matches a minute of an hour
abbrev pub admits_minute : Pattern → ℕ → Bool
admits_minute (Cron rule) minute = has_value rule.now.minutes minute
admits_minute (Event event) minute = has_value event.now.minutes minute

-- the pattern matches a second of a minute; a cron rule's job starts at second 0
abbrev pub admits_second : Pattern → ℕ → Bool
admits_second (Cron rule) second = second == 0
admits_second (Event event) second = has_value event.now.seconds second

-- the pattern matches the year and the month of a month, which is counted from January of the year 0
abbrev pub admits_month_number : Pattern → ℕ → Bool
admits_month_number pattern month = admits_year pattern (month / 12) && admits_month pattern (month % 12 + 1)

-- the pattern matches the date of a day, given its day number
abbrev pub admits_day : Pattern → ℕ → Bool
admits_day pattern day = admits_date pattern (civil_fields (day * seconds_a_day))

-- a cron rule matches the date of a day, given its day number
abbrev pub cron_admits_day : CronRule → ℕ → Bool
cron_admits_day rule day = day_matches rule (civil_fields (day * seconds_a_day))

-- the set has the day of the month of a day, whose month begins with the day `first`
abbrev pub has_month_day : Values → (first day : ℕ) → Bool
has_month_day places first day = has_value places (day - first + 1)

-- the set has the day of the week of a day, from 0 for Sunday; day 0 is a Thursday
abbrev pub has_week_day : Values → ℕ → Bool
has_week_day places day = has_value places ((day + 4) % 7)

-- the pattern matches the minute and the second of a second of an hour
abbrev pub admits_in_hour : Pattern → ℕ → Bool
admits_in_hour pattern second = admits_minute pattern (second / 60) && admits_second pattern (second % 60)

-- the pattern matches the hour, the minute and the second of a time of day, in seconds
abbrev pub admits_time : Pattern → ℕ → Bool
admits_time pattern time = admits_hour pattern (time / 3600) && admits_in_hour pattern (time % 3600)

-- the pattern matches the date and the time of day of a second
abbrev pub admits_moment : Pattern → ℕ → Bool
admits_moment pattern second =
    admits_day pattern (second / seconds_a_day) && admits_time pattern (second % seconds_a_day)

-- a month of the planner's years, with its first day and the day after its last
pub record IsMonth (month : Month) : Type 0 where
  pub from : first_year * 12 ≤ month.number
  pub to : month.number < end_month
  pub first_day : IsFirstDay month.number month.first
  pub end_is : month.end ≡ month.first + days_of_month month.number

-- a place in a month where a day may match: the pattern matches no date whose day is at or after `from` and before that
-- place; None if it matches no date whose day is at or after `from`
abbrev pub IsFirstOpen : Pattern → ℕ → Option ℕ → Type 0
IsFirstOpen pattern from None = (civil : Civil) → from ≤ civil.day → admits_date pattern civil ≡ false
IsFirstOpen pattern from (Some first) =
    (from ≤ first) × ((civil : Civil) → from ≤ civil.day → civil.day < first → admits_date pattern civil ≡ false)

-- the changes of the pattern's clock
abbrev pub clock_of : Pattern → List Change
clock_of (Cron rule) = rule.now.clock
clock_of (Event event) = event.now.clock

-- the pattern heeds the change at the start of this row of its clock, that is, handles it specially
abbrev pub heeds : Pattern → Row → Bool
heeds (Cron rule) row = cron_heeds rule.now row
heeds (Event event) row = event_heeds row

-- a second in the planner's years whose civil fields match
abbrev pub matches_shown : Pattern → ℕ → Bool
matches_shown (Cron rule) = is_shown (cron_matches rule.now)
matches_shown (Event event) = is_shown (event_matches event.now)

-- second n is a start of the pattern by its clock
abbrev pub starts_by : Pattern → ℕ → Bool
starts_by pattern n =
    let row = row_at (clock_of pattern) n in starts_in row (heeds pattern row) (matches_shown pattern) n

-- the pattern has no start at or after the second `from` and before `hope`, which is at most the end; unless it is the end,
-- something matches that a clock can show from then on, within 26 hours of it
pub record IsHope (pattern : Pattern) (from end hope : ℕ) : Type 0 where
  pub after : from ≤ hope
  pub within : hope ≤ end
  pub near : hope < end → (m : ℕ) × (from ≤ m + most_offset) × (m ≤ hope + most_offset) × (matches_shown pattern m ≡ true)
  pub none : NoneIn (starts_by pattern) from hope

-- from a start to the end of a part, the pattern starts exactly when what its clock shows matches; the part goes on to the end,
-- to the next row of the clock, or to the end of the planner's years as the clock shows them
pub record IsPlain (pattern : Pattern) (start end : ℕ) (part : Plain) : Type 0 where
  pub before : start < part.upto
  pub within : part.upto ≤ end
  pub whole : part.upto < end → part.shown + (part.upto - start) < end_second → (row_at (clock_of pattern) part.upto).second ≡ part.upto
  pub years : part.shown + (part.upto - start) ≤ end_second
  pub same : (k : ℕ) → start + k < part.upto → starts_by pattern (start + k) ≡ matches_shown pattern (part.shown + k)

-- the part of time that begins with a start, before an end; there is none if a row of the clock begins at the start
abbrev pub IsPlainPart : (pattern : Pattern) → (start end : ℕ) → Option Plain → Type 0
IsPlainPart pattern start end None = (row_at (clock_of pattern) start).second ≡ start
IsPlainPart pattern start end (Some part) = IsPlain pattern start end part
