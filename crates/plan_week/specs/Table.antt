-- How the starts of the hours are counted: in a table of all days around a span, which is changed at one hour at a time.
use Rattle.std.specs.Prelude.{ℕ, zero, suc, ◌+◌, ◌-◌, ◌/◌, ◌%◌, min, if◌then◌else◌, List, [], ◌∷◌, map, None, Option, Some, slice_index_or}
use Rattle.std.specs.List.{range_with_len}
use Rattle.plan_clock.specs.declared.row.Change.{Change}
use Rattle.plan_next.specs.Span.{Bounds}
use Rattle.plan_week.specs.Week.{count_of, day_by, day_count, has_hour}
use Rattle.plan_week.specs.declared.day.Day.{Day}

-- the same list, but for what is at a place, if there is such a place
abbrev pub changed_at : {X : Type 0} → (X → X) → (place : ℕ) → List X → List X
changed_at change place [] = []
changed_at change zero (x ∷ xs) = change x ∷ xs
changed_at change (suc place) (x ∷ xs) = x ∷ changed_at change place xs

-- an hour after more starts in it, which are in the span
abbrev pub with_starts : (starts : ℕ) → Option ℕ → Option ℕ
with_starts starts hour = Some (count_of hour + starts)

-- a day after more starts in an hour of it
abbrev pub day_with : (hour starts : ℕ) → Day → Day
day_with hour starts day = record day { hours = changed_at (with_starts starts) hour day.hours }

-- the days from the day with a number on, after more starts in an hour, which counts from the first hour of 1970-01-01
abbrev pub days_with : (first hour starts : ℕ) → List Day → List Day
days_with first hour starts days = changed_at (day_with (hour % 24) starts) (hour / 24 - first) days

-- the same, but no hour is changed if there are no more starts
abbrev pub days_after : (first hour starts : ℕ) → List Day → List Day
days_after first hour zero days = days
days_after first hour (suc starts) days = days_with first hour (suc starts) days

-- a day that isn't in the span
abbrev pub no_day : Day
no_day = record { number = 0; hours = [] }

-- what the days from the day with a number on have at an hour
abbrev pub found_at : (first hour : ℕ) → List Day → Option ℕ
found_at first hour days = slice_index_or (slice_index_or days (hour / 24 - first) no_day).hours (hour % 24) None

-- so many days from one on, by what each hour has
unfoldable pub days_by : (starts : ℕ → Option ℕ) → (first count : ℕ) → List Day
days_by starts first count = map (day_by starts) (range_with_len first count)

-- the number of the first day of the table for a span: no clock is more than 26 hours from UTC, so it shows no day that is more
-- than two days earlier
abbrev pub first_day : Bounds → ℕ
first_day span = span.since / 86400 - 2

-- the number of the day after the last one of the table
abbrev pub end_day : Bounds → ℕ
end_day span = min (span.upto / 86400 + 3) day_count

-- the table for a span, by what each hour has
abbrev pub table_by : (starts : ℕ → Option ℕ) → Bounds → List Day
table_by starts span = days_by starts (first_day span) (end_day span - first_day span)

-- no starts in an hour, if it is in the span
abbrev pub shown_in : List Change → Bounds → (hour : ℕ) → Option ℕ
shown_in clock span hour = if has_hour clock span hour then Some 0 else None
