-- How days, months and years are said (agenda). Days of a month are 1 to 31, or places from its end, where 1 is its last day;
-- weekdays are 0 to 6 from Monday.
use Rattle.std.specs.Prelude.{ℕ, ◌+◌, ◌-◌, ◌/◌, ◌%◌, Bool, false, ◌&&◌, ◌||◌, ◌==◌, nat_le, nat_lt, if◌then◌else◌, List, [], ◌∷◌, map, reverse, Option, Some, None}
use Rattle.std.specs.List.{list_all, range_with_len}
use Rattle.plan_sets.specs.Limits.{first_year, last_year}
use Rattle.plan_words.specs.declared.names.Weekday.{Weekday}
use Rattle.plan_words.specs.declared.names.Weekday.TheVariants as weekday
use Rattle.plan_words.specs.declared.names.Month.{Month}
use Rattle.plan_words.specs.declared.names.Month.TheVariants as month
use Rattle.plan_words.specs.Tree as tree
use Rattle.plan_words.specs.declared.tree.Span.{Span}
use Rattle.plan_words.specs.Tree.{Values, Steps, Items, Dates, FromStart, FromEnd, LastDays, Week, WeekRun, WeekList, AnyDay, OnWeekdays, OnDates, OnNth, OnBoth, OnEither, Months, AllMonths, MonthRun, MonthList}
use Rattle.plan_describe.specs.Numbers.{has_number, is_run, is_spaced, is_whole, last_of, members, runs, values_said}

-- ---- weekdays

-- the weekday with a number from 0 for Monday
abbrev pub weekday_of : ℕ → Weekday
weekday_of n =
    if n == 0 then weekday.Monday
    else (if n == 1 then weekday.Tuesday
    else (if n == 2 then weekday.Wednesday
    else (if n == 3 then weekday.Thursday
    else (if n == 4 then weekday.Friday
    else (if n == 5 then weekday.Saturday
    else weekday.Sunday)))))

-- two runs that are one over Sunday, of three or more weekdays: one from Monday on, and one up to Sunday
abbrev pub week_round : (start end : Span) → Option Span
week_round start end =
    if (start.first == 0) && ((end.last == 6) && (nat_lt start.last end.first && nat_le end.first (start.last + 5)))
    then Some (record { first = end.first; last = start.last })
    else None

-- the one run of three or more weekdays that runs are, from one weekday to another
abbrev pub week_run : List Span → Option Span
week_run [] = None
week_run (run ∷ []) = if nat_le (run.first + 2) run.last then Some run else None
week_run (start ∷ end ∷ []) = week_round start end
week_run (a ∷ b ∷ c ∷ more) = None

-- weekdays by their run, if they are one
abbrev pub week_by : Option Span → List ℕ → Week
week_by (Some run) weekdays = WeekRun (weekday_of run.first) (weekday_of run.last)
week_by None weekdays = WeekList (map weekday_of weekdays)

-- how weekdays are said
abbrev pub week_said : List ℕ → Week
week_said weekdays = week_by (week_run (runs weekdays)) weekdays

-- ---- dates

-- the numbers are 1 to another
abbrev pub is_from_one : List ℕ → Bool
is_from_one [] = false
is_from_one (v ∷ []) = false
is_from_one (v ∷ w ∷ more) = (v == 1) && is_spaced 1 v (w ∷ more)

-- the greatest number first
abbrev pub turned_span : Span → Span
turned_span s = record { first = s.last; last = s.first }

abbrev pub turned : Values → Values
turned (Steps first last step) = Steps last first step
turned (Items spans) = Items (map turned_span (reverse spans))

-- places from the month's end
abbrev pub places_said : List ℕ → Dates
places_said [] = FromEnd (turned (values_said []))
places_said (v ∷ vs) = if is_from_one (v ∷ vs) then LastDays (last_of v vs) else FromEnd (turned (values_said (v ∷ vs)))

abbrev pub dates_said : (from_end : Bool) → List ℕ → Dates
dates_said from_end days = if from_end then places_said days else FromStart (values_said days)

-- ---- days

-- the days are the k-th week of the month, 1 to 4
abbrev pub nth_week : List ℕ → Option ℕ
nth_week [] = None
nth_week (v ∷ vs) =
    if is_spaced 1 v vs && ((v % 7 == 1) && ((last_of v vs == v + 6) && nat_lt v 28)) then Some (last_of v vs / 7) else None

-- days that a date and a weekday give together
abbrev pub both_by : Option ℕ → (from_end : Bool) → (days weekdays : List ℕ) → tree.Days
both_by None from_end days weekdays = OnBoth (dates_said from_end days) (week_said weekdays)
both_by (Some k) from_end days [] = OnBoth (dates_said from_end days) (week_said [])
both_by (Some k) from_end days (w ∷ []) = OnNth k from_end (weekday_of w)
both_by (Some k) from_end days (w ∷ x ∷ more) = OnBoth (dates_said from_end days) (week_said (w ∷ x ∷ more))

-- both must match; all days of the month, or all weekdays, say nothing
abbrev pub both_said : (from_end : Bool) → (days weekdays : List ℕ) → tree.Days
both_said from_end days weekdays =
    if is_whole 1 31 days
    then (if is_whole 0 6 weekdays then AnyDay else OnWeekdays (week_said weekdays))
    else (if is_whole 0 6 weekdays then OnDates (dates_said from_end days) else both_by (nth_week days) from_end days weekdays)

-- one is enough; all days of the month, or all weekdays, are every day
abbrev pub either_said : (from_end : Bool) → (days weekdays : List ℕ) → tree.Days
either_said from_end days weekdays =
    if is_whole 1 31 days || is_whole 0 6 weekdays then AnyDay else OnEither (dates_said from_end days) (week_said weekdays)

-- how the days are said
abbrev pub days_said : (either from_end : Bool) → (days weekdays : List ℕ) → tree.Days
days_said either from_end days weekdays =
    if either then either_said from_end days weekdays else both_said from_end days weekdays

-- ---- months and years

-- the month with a number from 1
abbrev pub month_of : ℕ → Month
month_of n =
    if n == 1 then month.January
    else (if n == 2 then month.February
    else (if n == 3 then month.March
    else (if n == 4 then month.April
    else (if n == 5 then month.May
    else (if n == 6 then month.June
    else (if n == 7 then month.July
    else (if n == 8 then month.August
    else (if n == 9 then month.September
    else (if n == 10 then month.October
    else (if n == 11 then month.November
    else month.December))))))))))

-- the months that are no run
abbrev pub month_list : List ℕ → Months
month_list months = MonthList (map month_of months)

-- how months are said
abbrev pub months_said : List ℕ → Months
months_said [] = month_list []
months_said (v ∷ vs) =
    if is_whole 1 12 (v ∷ vs)
    then AllMonths
    else (if is_run (v ∷ vs) then MonthRun (month_of v) (month_of (last_of v vs)) else month_list (v ∷ vs))

-- the number of supported years
abbrev pub year_count : ℕ
year_count = last_year + 1 - first_year

-- how the years that pass a test are said
abbrev pub years_said : (ℕ → Bool) → Option Values
years_said test =
    if list_all test (range_with_len first_year year_count) then None else Some (values_said (members test first_year year_count))

-- a day of the month, its place from the month's end and its weekday are among those of a rule
abbrev pub is_day : (either from_end : Bool) → (days weekdays : List ℕ) → (of_month place weekday : ℕ) → Bool
is_day either from_end days weekdays d p w =
    let in_days = has_number days (if from_end then p else d) in
    let in_week = has_number weekdays w in
    if either then in_days || in_week else in_days && in_week
