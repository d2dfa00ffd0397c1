-- What a description means: which times, days, months and years it has. Sets are tests on numbers.
use Rattle.std.specs.Prelude.{ℕ, ◌+◌, ◌-◌, ◌*◌, ◌/◌, ◌%◌, Bool, true, false, ◌&&◌, ◌||◌, ◌==◌, nat_le, Option, Some, None}
use Rattle.std.specs.List.{list_any}
use Rattle.plan_sets.specs.declared.civil.Civil.{Civil}
use Rattle.plan_sets.specs.Civil.{length_of_month}
use Rattle.plan_words.specs.declared.names.TimeUnit.{TimeUnit}
use Rattle.plan_words.specs.declared.names.TimeUnit.TheVariants.{Second, Minute, Hour}
use Rattle.plan_words.specs.declared.names.Weekday.{Weekday}
use Rattle.plan_words.specs.declared.names.Weekday.TheVariants as day
use Rattle.plan_words.specs.declared.names.Month.{Month}
use Rattle.plan_words.specs.declared.names.Month.TheVariants as month
use Rattle.plan_words.specs.Tree as tree
use Rattle.plan_words.specs.Tree.{Span, Values, Steps, Items, TimeOfDay, Window, Lead, Cycle, Among, Hours, AllHours, HourSteps, HourList, Time, Listed, WholeDay, Windows, Minutes, Seconds, Dates, FromStart, FromEnd, LastDays, Week, WeekRun, WeekList, AnyDay, OnWeekdays, OnDates, OnNth, OnBoth, OnEither, Months, AllMonths, MonthRun, MonthList, Schedule, Description, OnReboot, Scheduled}

-- the numbers from one to another by a step
abbrev pub steps_have : (first last step : ℕ) → ℕ → Bool
steps_have first last step v = nat_le first v && (nat_le v last && ((v - first) % step == 0))

-- the numbers from one to another
abbrev pub span_has : ℕ → Span → Bool
span_has v span = nat_le span.first v && nat_le v span.last

-- the numbers that values are
abbrev pub values_have : Values → ℕ → Bool
values_have (Steps first last step) v = steps_have first last step v
values_have (Items spans) v = list_any (span_has v) spans

-- all numbers if there are no values
abbrev pub some_have : Option Values → ℕ → Bool
some_have None v = true
some_have (Some values) v = values_have values v

-- the smallest unit: the multiples of a number, or values
abbrev pub lead_has : Lead → ℕ → Bool
lead_has (Cycle n) v = v % n == 0
lead_has (Among values) v = values_have values v

-- the hours of the day
abbrev pub hours_have : Hours → ℕ → Bool
hours_have AllHours h = true
hours_have (HourSteps first last step) h = steps_have first last step h
hours_have (HourList list) h = list_any (λ v. v == h) list

-- ---- time

-- the number of seconds in a unit
abbrev pub seconds_in : TimeUnit → ℕ
seconds_in Second = 1
seconds_in Minute = 60
seconds_in Hour = 3600

-- a time of day as a second of the day
abbrev pub second_of_day : TimeOfDay → ℕ
second_of_day time = 3600 * time.hour + (60 * time.minute + time.second)

-- the seconds of the day from the start of a window to its end, by a step
abbrev pub window_has : (step t : ℕ) → Window → Bool
window_has step t window = steps_have (second_of_day window.first) (second_of_day window.last) step t

-- whether a second of the day is one of the times
abbrev pub time_has : Time → ℕ → Bool
time_has (Listed times) t = list_any (λ time. second_of_day time == t) times
time_has (WholeDay count unit) t = t % (count * seconds_in unit) == 0
time_has (Windows count unit windows) t = list_any (window_has (count * seconds_in unit) t) windows
time_has (Minutes lead hours) t = (t % 60 == 0) && (lead_has lead (t / 60 % 60) && hours_have hours (t / 3600))
time_has (Seconds lead minutes hours) t =
    lead_has lead (t % 60) && (some_have minutes (t / 60 % 60) && hours_have hours (t / 3600))

-- ---- days

-- the number of a weekday from 0 for Monday
abbrev pub weekday_number : Weekday → ℕ
weekday_number day.Monday = 0
weekday_number day.Tuesday = 1
weekday_number day.Wednesday = 2
weekday_number day.Thursday = 3
weekday_number day.Friday = 4
weekday_number day.Saturday = 5
weekday_number day.Sunday = 6

-- the number of a month from 1
abbrev pub month_number : Month → ℕ
month_number month.January = 1
month_number month.February = 2
month_number month.March = 3
month_number month.April = 4
month_number month.May = 5
month_number month.June = 6
month_number month.July = 7
month_number month.August = 8
month_number month.September = 9
month_number month.October = 10
month_number month.November = 11
month_number month.December = 12

-- a run goes over Sunday if it ends before it begins
abbrev pub week_has : Week → ℕ → Bool
week_has (WeekRun first last) w =
    nat_le ((w + 7 - weekday_number first) % 7) ((weekday_number last + 7 - weekday_number first) % 7)
week_has (WeekList days) w = list_any (λ d. weekday_number d == w) days

-- places from the month's end: the greatest is said first
abbrev pub places_have : Values → ℕ → Bool
places_have (Steps first last step) p = steps_have last first step p
places_have (Items spans) p = list_any (λ s. nat_le s.last p && nat_le p s.first) spans

-- the day of the month, and its place from the month's end
abbrev pub dates_have : Dates → (of_month place : ℕ) → Bool
dates_have (FromStart values) of_month place = values_have values of_month
dates_have (FromEnd values) of_month place = places_have values place
dates_have (LastDays n) of_month place = nat_le place n

-- the days of a schedule. The first, the second and so on of a weekday is in the first, the second and so on seven days of the month; `either`
-- needs only one of the two (crontab(5), the note on the day of a command's execution)
abbrev pub days_have : tree.Days → (of_month place weekday : ℕ) → Bool
days_have AnyDay d p w = true
days_have (OnWeekdays week) d p w = week_has week w
days_have (OnDates dates) d p w = dates_have dates d p
days_have (OnNth k false weekday) d p w = ((d + 6) / 7 == k) && (weekday_number weekday == w)
days_have (OnNth k true weekday) d p w = ((p + 6) / 7 == k) && (weekday_number weekday == w)
days_have (OnBoth dates week) d p w = dates_have dates d p && week_has week w
days_have (OnEither dates week) d p w = dates_have dates d p || week_has week w

-- the months of a schedule
abbrev pub months_have : Months → ℕ → Bool
months_have AllMonths m = true
months_have (MonthRun first last) m = nat_le (month_number first) m && nat_le m (month_number last)
months_have (MonthList list) m = list_any (λ x. month_number x == m) list

-- ---- civil fields

-- the place of a day from the end of its month, where 1 is the month's last day (systemd.time(7), `~`)
abbrev pub place_from_end : Civil → ℕ
place_from_end civil = length_of_month civil.year civil.month - civil.day + 1

-- the time of day of civil fields, as a second of the day
abbrev pub time_of_civil : Civil → ℕ
time_of_civil civil = 3600 * civil.hour + (60 * civil.minute + civil.second)

-- whether a schedule has the day of the civil fields
abbrev pub has_day : Schedule → Civil → Bool
has_day s civil =
    some_have s.years civil.year
    && (months_have s.months civil.month && days_have s.days civil.day (place_from_end civil) civil.weekday)

-- the meaning of a description: whether the rule starts its job when the clock shows these civil fields
abbrev pub description_matches : Description → Civil → Bool
description_matches OnReboot civil = false
description_matches (Scheduled s) civil = has_day s civil && time_has s.time (time_of_civil civil)
