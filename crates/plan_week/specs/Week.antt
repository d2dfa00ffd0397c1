-- How many starts each local hour of a span has (agenda).
use Rattle.std.specs.Prelude.{ℕ, ◌+◌, ◌-◌, ◌*◌, ◌==◌, ◌&&◌, nat_le, nat_lt, Bool, if◌then◌else◌, IsTrue, List, count_by, filter, map, sum_by, Option, None, Some, is_some, unwrap_or}
use Rattle.std.specs.List.{list_all, list_any, range_with_len}
use Rattle.plan_clock.specs.declared.row.Change.{Change}
use Rattle.plan_collect.specs.Agenda.{Planned}
use Rattle.plan_next.specs.Span.{Bounds}
use Rattle.plan_week.specs.Hours.{hour_at}
use Rattle.plan_week.specs.declared.day.Day.{Day}

-- the number of days in the planner's years
abbrev pub day_count : ℕ
day_count = 376_200

-- whether second n is in a span
abbrev pub is_inside : Bounds → (n : ℕ) → Bool
is_inside span n = nat_le span.since n && nat_lt n span.upto

-- whether an hour is in a span: the clock shows it at some second of the span
unfoldable pub has_hour : List Change → Bounds → (hour : ℕ) → Bool
has_hour clock span hour = list_any (λ n. hour_at clock n == hour) (range_with_len span.since (span.upto - span.since))

-- whether an entry is in a span, and the clock shows an hour at its time
abbrev pub is_counted : List Change → Bounds → (hour : ℕ) → (entry : ℕ × ℕ) → Bool
is_counted clock span hour entry = is_inside span entry.0 && (hour_at clock entry.0 == hour)

-- the number of starts in an hour, if the hour is in the span: the entries in the span at whose time the clock shows that hour
abbrev pub starts_in : List Change → Planned → (hour : ℕ) → Option ℕ
starts_in clock made hour =
    if has_hour clock made.span hour then Some (count_by (is_counted clock made.span hour) made.entries) else None

-- the 24 hours of the day with a number, of what each hour has
unfoldable pub hours_of_day : (starts : ℕ → Option ℕ) → (number : ℕ) → List (Option ℕ)
hours_of_day starts number = map (λ hour. starts (number * 24 + hour)) (range_with_len 0 24)

-- the day with a number, from 0 for 1970-01-01, by what each hour has
abbrev pub day_by : (starts : ℕ → Option ℕ) → (number : ℕ) → Day
day_by starts number = record { number = number; hours = hours_of_day starts number }

-- whether some hour of a day is in the span
abbrev pub is_met : Day → Bool
is_met day = list_any is_some day.hours

-- those of so many days from one on that have an hour in the span
unfoldable pub days_met : (starts : ℕ → Option ℕ) → (first count : ℕ) → List Day
days_met starts first count = filter is_met (map (day_by starts) (range_with_len first count))

-- the days of an agenda by a clock: each day that the clock shows at some second of the span, in order
abbrev pub week_of : List Change → Planned → List Day
week_of clock made = days_met (starts_in clock made) 0 day_count

-- ---- sums

-- the number of starts of an hour; an hour that isn't in the span has none
abbrev pub count_of : Option ℕ → ℕ
count_of hour = unwrap_or hour 0

-- the number of starts of a day
abbrev pub day_sum : Day → ℕ
day_sum day = sum_by count_of day.hours

-- the number of starts of all days
abbrev pub week_sum : List Day → ℕ
week_sum days = sum_by day_sum days

-- these days are in the planner's years
abbrev pub AreInYears : List Day → Type 0
AreInYears days = IsTrue (list_all (λ day. nat_lt day.number day_count) days)
