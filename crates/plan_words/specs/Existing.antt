-- Which of the days that a schedule has exist in the calendar, in the years that the planner supports.
use Rattle.std.specs.Prelude.{ℕ, ◌+◌, ◌-◌, Bool, false, not, ◌&&◌, nat_lt, List, length, slice_get, Option, Some, None, pos}
use Rattle.std.specs.Option.{option_map}
use Rattle.std.specs.List.{list_any, range_with_len}
use Rattle.jiff_core.specs.Calendar.{days_from_civil, weekday_number}
use Rattle.plan_sets.specs.declared.civil.Civil.{Civil}
use Rattle.plan_sets.specs.Civil.{length_of_month}
use Rattle.plan_sets.specs.Limits.{first_year, last_year}
use Rattle.plan_words.specs.Tree as tree
use Rattle.plan_words.specs.Tree.{Span, Items, Dates, FromStart, FromEnd, OnDates, OnBoth, OnEither, Schedule}
use Rattle.plan_words.specs.Meaning.{has_day, months_have, some_have}

-- the weekday of a date, from 0 for Monday (ISO 8601)
abbrev pub weekday_of_date : (year month day : ℕ) → ℕ
weekday_of_date year month day = weekday_number (days_from_civil (pos year) month day)

-- a date at midnight, as civil fields
abbrev pub date_fields : (year month day : ℕ) → Civil
date_fields year month day = record {
  year = year;
  month = month;
  day = day;
  weekday = weekday_of_date year month day;
  hour = 0;
  minute = 0;
  second = 0;
}

-- some date of a month passes a test
abbrev pub some_day : (Civil → Bool) → (year month : ℕ) → Bool
some_day test year month = list_any (λ day. test (date_fields year month day)) (range_with_len 1 (length_of_month year month))

-- some month of the supported years passes a test (agenda)
unfoldable pub some_month : ((year month : ℕ) → Bool) → Bool
some_month test =
    list_any (λ year. list_any (λ month. test year month) (range_with_len 1 12)) (range_with_len first_year (last_year + 1 - first_year))

-- no day of the supported years is one of a schedule
abbrev pub is_void : Schedule → Bool
is_void s = not (some_month (some_day (has_day s)))

-- the first number of the last span
abbrev pub last_first : List Span → Option ℕ
last_first spans = option_map (λ s. s.first) (slice_get spans (length spans - 1))

-- the last number of the first span
abbrev pub first_last : List Span → Option ℕ
first_last spans = option_map (λ s. s.last) (slice_get spans 0)

-- the least number of the item with the greatest numbers; places from the month's end begin with the greatest
abbrev pub greatest_item : Dates → Option ℕ
greatest_item (FromStart (Items spans)) = last_first spans
greatest_item (FromEnd (Items spans)) = first_last spans
greatest_item dates = None

-- the same of days that have dates
abbrev pub greatest_date : tree.Days → Option ℕ
greatest_date (OnDates dates) = greatest_item dates
greatest_date (OnBoth dates week) = greatest_item dates
greatest_date (OnEither dates week) = greatest_item dates
greatest_date days = None

-- some month of a schedule has fewer days
abbrev pub is_short : Schedule → Option ℕ → Bool
is_short s None = false
is_short s (Some n) =
    some_month (λ year month. some_have s.years year && (months_have s.months month && nat_lt (length_of_month year month) n))

-- some month of a schedule lacks its greatest date, but some day exists
abbrev pub lacks : Schedule → Bool
lacks s = not (is_void s) && is_short s (greatest_date s.days)
