-- The sentence of a description.
use Rattle.std.specs.Prelude.{ℕ, ◌+◌, Bool, true, false, not, ◌&&◌, ◌||◌, ◌==◌, nat_lt, if◌then◌else◌, List, [], ◌∷◌, ◌++◌, codes, Option, Some, None}
use Rattle.std.specs.List.{list_any}
use Rattle.plan_sets.specs.Limits.{last_year}
use Rattle.plan_words.specs.declared.names.TimeUnit.{TimeUnit}
use Rattle.plan_words.specs.declared.names.TimeUnit.TheVariants.{Second, Minute, Hour}
use Rattle.plan_words.specs.declared.names.Weekday.{Weekday}
use Rattle.plan_words.specs.declared.names.Month.{Month}
use Rattle.plan_words.specs.Words.{At, Every, From, To, Of, And, Comma, On, The, Last, ADay, Days, Odd, Even, Each, AMonth, Year, In, But, Only, Also, Where, It, They, Exists, Exist, Word, Key, Number, Ordinal, Clock, ClockSeconds, ADayOfWeek, DaysOfWeek, NameOfMonth, OneUnit, ManyUnits, text_of_words}
use Rattle.plan_words.specs.Tree as tree
use Rattle.plan_words.specs.Tree.{Span, Values, Steps, Items, TimeOfDay, Window, Lead, Cycle, Among, Hours, AllHours, HourSteps, HourList, Time, Listed, WholeDay, Windows, Minutes, Seconds, Dates, FromStart, FromEnd, LastDays, Week, WeekRun, WeekList, AnyDay, OnWeekdays, OnDates, OnNth, OnBoth, OnEither, Months, AllMonths, MonthRun, MonthList, Schedule, Description, OnReboot, Scheduled}
use Rattle.plan_words.specs.Existing.{is_void, lacks}

-- ---- lists

-- a list: `a`, `a and b`, `a, b and c`
abbrev pub joined : {A : Type 0} → (A → List Word) → List A → List Word
joined item [] = []
joined item (x ∷ []) = item x
joined item (x ∷ y ∷ []) = item x ++ Key And ∷ item y
joined item (x ∷ y ∷ z ∷ more) = item x ++ Key Comma ∷ joined item (y ∷ z ∷ more)

-- a number: `2`
abbrev pub number : ℕ → List Word
number n = Number n ∷ []

-- a number with its ending: `2nd`
abbrev pub ordinal : ℕ → List Word
ordinal n = Ordinal n ∷ []

-- a place from the month's end
abbrev pub place : ℕ → List Word
place n = if n == 1 then Key Last ∷ [] else Ordinal n ∷ Key Last ∷ []

-- whether a span is a single number
abbrev pub is_single : Span → Bool
is_single span = span.first == span.last

-- a span: `a` or `a to b`
abbrev pub span_words : (ℕ → List Word) → Span → List Word
span_words value span = if is_single span then value span.first else value span.first ++ Key To ∷ value span.last

-- whether spans are a single number
abbrev pub is_one : List Span → Bool
is_one [] = false
is_one (x ∷ []) = is_single x
is_one (x ∷ y ∷ more) = false

-- ---- time

-- `every unit` or `every n units`
abbrev pub every : ℕ → TimeUnit → List Word
every n unit = if n == 1 then Key Every ∷ OneUnit unit ∷ [] else Key Every ∷ Number n ∷ ManyUnits unit ∷ []

-- whether a time of day isn't at second 0
abbrev pub has_second : TimeOfDay → Bool
has_second time = not (time.second == 0)

-- a time of day with its second or without it
abbrev pub clock_word : (seconds : Bool) → TimeOfDay → Word
clock_word seconds time = if seconds then ClockSeconds time.hour time.minute time.second else Clock time.hour time.minute

-- the same as a list of words
abbrev pub clock : (seconds : Bool) → TimeOfDay → List Word
clock seconds time = clock_word seconds time ∷ []

-- a window: `from a to b`
abbrev pub window_words : (seconds : Bool) → Window → List Word
window_words seconds window =
    Key From ∷ clock_word seconds window.first ∷ Key To ∷ clock_word seconds window.last ∷ []

-- whether a window doesn't begin or end at second 0
abbrev pub has_second_within : Window → Bool
has_second_within w = has_second w.first || has_second w.last

-- windows: `from a to b and from c to d`; all times have their second if one needs it
abbrev pub windows_words : List Window → List Word
windows_words windows = joined (window_words (list_any has_second_within windows)) windows

-- a unit and its numbers: `minute 5` or `minutes 5 and 10`
abbrev pub unit_items : TimeUnit → List Span → List Word
unit_items unit spans = (if is_one spans then OneUnit unit else ManyUnits unit) ∷ joined (span_words number) spans

-- the smallest unit: `every 15 minutes`, `every 7 minutes from minute 0 to 56` or `at minute 5`
abbrev pub lead_words : TimeUnit → Lead → List Word
lead_words unit (Cycle n) = every n unit
lead_words unit (Among (Steps first last step)) =
    every step unit ++ Key From ∷ OneUnit unit ∷ Number first ∷ Key To ∷ Number last ∷ []
lead_words unit (Among (Items spans)) = Key At ∷ unit_items unit spans

-- the minutes after seconds: `of every minute`, `of every 5th minute from 0 to 55` or `of minutes 0 and 30`
abbrev pub of_minutes : Option Values → List Word
of_minutes None = Key Of ∷ Key Every ∷ OneUnit Minute ∷ []
of_minutes (Some (Steps first last step)) =
    Key Of ∷ Key Every ∷ Ordinal step ∷ OneUnit Minute ∷ Key From ∷ Number first ∷ Key To ∷ Number last ∷ []
of_minutes (Some (Items spans)) = Key Of ∷ unit_items Minute spans

-- the hours after minutes: `of every hour`, `of every 2nd hour from 00:00 to 22:59` or `of hour 9`
abbrev pub of_hours : Hours → List Word
of_hours AllHours = Key Of ∷ Key Every ∷ OneUnit Hour ∷ []
of_hours (HourSteps first last step) =
    Key Of ∷ Key Every ∷ (if step == 1 then [] else Ordinal step ∷ []) ++ OneUnit Hour ∷ Key From ∷ Clock first 0 ∷ Key To ∷ Clock last 59 ∷ []
of_hours (HourList []) = []
of_hours (HourList (x ∷ [])) = Key Of ∷ OneUnit Hour ∷ Number x ∷ []
of_hours (HourList (x ∷ y ∷ more)) = Key Of ∷ ManyUnits Hour ∷ joined number (x ∷ y ∷ more)

-- the hours after the minutes of every hour
abbrev pub of_minutes_and_hours : Option Values → Hours → List Word
of_minutes_and_hours None AllHours = of_minutes None
of_minutes_and_hours minutes hours = of_minutes minutes ++ of_hours hours

-- the time: `at 04:30`, `every hour`, `every 5 minutes from 09:00 to 17:55` or the smallest unit and what it is of
abbrev pub time_words : Time → List Word
time_words (Listed times) = Key At ∷ joined (clock (list_any has_second times)) times
time_words (WholeDay count unit) = every count unit
time_words (Windows count unit windows) = every count unit ++ windows_words windows
time_words (Minutes lead hours) = lead_words Minute lead ++ of_hours hours
time_words (Seconds lead minutes hours) = lead_words Second lead ++ of_minutes_and_hours minutes hours

-- ---- months and years

-- `on` or `to b`
abbrev pub until : (is_last : Bool) → ℕ → List Word
until true last = Key On ∷ []
until false last = Key To ∷ Number last ∷ []

-- the years: `from 2024 to 2026`, `in every 2nd year from 2024 on` or `in 2024 and 2026`
abbrev pub years_words : Option Values → List Word
years_words None = []
years_words (Some (Steps first last step)) =
    Key In ∷ Key Every ∷ Ordinal step ∷ Key Year ∷ Key From ∷ Number first ∷ until (nat_lt last_year (last + step)) last
years_words (Some (Items [])) = []
years_words (Some (Items (x ∷ []))) =
    if is_single x then Key In ∷ Number x.first ∷ []
    else Key From ∷ Number x.first ∷ until (x.last == last_year) x.last
years_words (Some (Items (x ∷ y ∷ more))) = Key In ∷ joined (span_words number) (x ∷ y ∷ more)

-- the years after a single month
abbrev pub years_after_month : Option Values → List Word
years_after_month None = years_words None
years_after_month (Some (Steps first last step)) = years_words (Some (Steps first last step))
years_after_month (Some (Items [])) = []
years_after_month (Some (Items (x ∷ []))) =
    if is_single x then Number x.first ∷ [] else Key From ∷ Number x.first ∷ until (x.last == last_year) x.last
years_after_month (Some (Items (x ∷ y ∷ more))) = years_words (Some (Items (x ∷ y ∷ more)))

-- a month: `May`
abbrev pub month_name : Month → List Word
month_name m = NameOfMonth m ∷ []

-- months and years after dates (`of`), or after weekdays and `on every day` (`in`)
abbrev pub when_words : (after_dates : Bool) → Months → Option Values → List Word
when_words after_dates AllMonths years = (if after_dates then Key Of ∷ Key Each ∷ Key AMonth ∷ [] else []) ++ years_words years
when_words after_dates (MonthRun first last) years =
    (if after_dates then Key Of ∷ Key Each ∷ Key AMonth ∷ [] else [])
    ++ (Key From ∷ NameOfMonth first ∷ Key To ∷ NameOfMonth last ∷ years_words years)
when_words after_dates (MonthList []) years = years_words years
when_words after_dates (MonthList (x ∷ [])) years =
    (if after_dates then Key Of else Key In) ∷ NameOfMonth x ∷ years_after_month years
when_words after_dates (MonthList (x ∷ y ∷ more)) years =
    (if after_dates then Key Of else Key In) ∷ joined month_name (x ∷ y ∷ more) ++ years_words years

-- ---- days

-- days from one to another by a step
abbrev pub day_steps : (first last step : ℕ) → List Word
day_steps first last step =
    Key On ∷ Key Every ∷ Ordinal step ∷ Key ADay ∷ Key From ∷ Key The ∷ Ordinal first ∷ Key To ∷ Key The ∷ Ordinal last ∷ []

-- evenly spaced days; odd and even days have words of their own
abbrev pub start_steps : (odd even : Bool) → (first last step : ℕ) → List Word
start_steps odd even first last step =
    if odd then Key On ∷ Key Odd ∷ Key Days ∷ []
    else (if even then Key On ∷ Key Even ∷ Key Days ∷ [] else day_steps first last step)

-- dates: `on odd days`, `on the 1st and 15th`, `on the last day` or `on the last 3 days`
abbrev pub dates_words : Dates → List Word
dates_words (FromStart (Steps first last step)) =
    start_steps ((first == 1) && ((last == 31) && (step == 2))) ((first == 2) && ((last == 30) && (step == 2))) first last step
dates_words (FromStart (Items spans)) = Key On ∷ Key The ∷ joined (span_words ordinal) spans
dates_words (FromEnd (Steps first last step)) =
    Key On ∷ Key Every ∷ Ordinal step ∷ Key ADay ∷ Key From ∷ Key The ∷ place first ++ (Key To ∷ Key The ∷ (place last ++ (Key ADay ∷ [])))
dates_words (FromEnd (Items spans)) =
    Key On ∷ Key The ∷ joined (span_words place) spans ++ (if is_one spans then Key ADay ∷ [] else Key Days ∷ [])
dates_words (LastDays n) = Key On ∷ Key The ∷ Key Last ∷ Number n ∷ Key Days ∷ []

-- a weekday in the plural: `Mondays`
abbrev pub weekday_names : Weekday → List Word
weekday_names w = DaysOfWeek w ∷ []

-- a weekday: `Monday`
abbrev pub weekday_name : Weekday → List Word
weekday_name w = ADayOfWeek w ∷ []

-- weekdays: `from Monday to Friday` or `on Mondays and Fridays`
abbrev pub weekdays_words : Week → List Word
weekdays_words (WeekRun first last) = Key From ∷ ADayOfWeek first ∷ Key To ∷ ADayOfWeek last ∷ []
weekdays_words (WeekList days) = Key On ∷ joined weekday_names days

-- each of the weekdays: `on every day from Monday to Friday` or `on every Monday and Friday`
abbrev pub each_weekday_words : Week → List Word
each_weekday_words (WeekRun first last) = Key On ∷ Key Every ∷ Key ADay ∷ Key From ∷ ADayOfWeek first ∷ Key To ∷ ADayOfWeek last ∷ []
each_weekday_words (WeekList days) = Key On ∷ Key Every ∷ joined weekday_name days

-- `, where it exists`, if not every month has such a day
abbrev pub lack_words : (lacks : Bool) → Dates → List Word
lack_words false dates = []
lack_words true (FromStart (Items spans)) = Key Comma ∷ Key Where ∷ (if is_one spans then Key It ∷ Key Exists ∷ [] else Key They ∷ Key Exist ∷ [])
lack_words true (FromEnd (Items spans)) = Key Comma ∷ Key Where ∷ (if is_one spans then Key It ∷ Key Exists ∷ [] else Key They ∷ Key Exist ∷ [])
lack_words true dates = []

-- months and years of all days: `on every day in August`
abbrev pub any_day_words : Months → Option Values → List Word
any_day_words AllMonths None = []
any_day_words months years = Key On ∷ Key Every ∷ Key ADay ∷ when_words false months years

-- the days with their months and years; both dates and weekdays are `but only`, either of them is `and also`
abbrev pub days_words : (lacks : Bool) → tree.Days → Months → Option Values → List Word
days_words lacks AnyDay months years = any_day_words months years
days_words lacks (OnWeekdays week) months years = weekdays_words week ++ when_words false months years
days_words lacks (OnDates dates) months years = dates_words dates ++ (when_words true months years ++ lack_words lacks dates)
days_words lacks (OnNth k false w) months years = Key On ∷ Key The ∷ Ordinal k ∷ ADayOfWeek w ∷ when_words true months years
days_words lacks (OnNth k true w) months years = Key On ∷ Key The ∷ place k ++ (ADayOfWeek w ∷ when_words true months years)
days_words lacks (OnBoth dates week) months years =
    dates_words dates ++ (when_words true months years ++ (lack_words lacks dates ++ (Key Comma ∷ Key But ∷ Key Only ∷ weekdays_words week)))
days_words lacks (OnEither dates week) months years =
    dates_words dates ++ (when_words true months years ++ (lack_words lacks dates
    ++ (Key Comma ∷ Key And ∷ Key Also ∷ each_weekday_words week ++ when_words false months years)))

-- the words of a schedule, without the notes in brackets
abbrev pub schedule_words : Schedule → List Word
schedule_words s = time_words s.time ++ days_words (lacks s) s.days s.months s.years

-- ---- the whole

-- ` (Z)`, if the rule names a zone
abbrev pub zone_text : Option (List ℕ) → List ℕ
zone_text None = []
zone_text (Some name) = codes " (" ++ (name ++ codes ")")

-- ` (no such day)`, if no day of the years 1970 to 2999 matches
abbrev pub void_text : (is_void : Bool) → List ℕ
void_text false = []
void_text true = codes " (no such day)"

-- the notes after the words
abbrev pub notes_text : Schedule → List ℕ
notes_text s = zone_text s.zone ++ void_text (is_void s)

-- the sentence of `@reboot`
abbrev pub reboot_text : List ℕ
reboot_text = codes "never by the clock; when cron starts"

-- the sentence of a description
abbrev pub sentence_of : Description → List ℕ
sentence_of OnReboot = reboot_text
sentence_of (Scheduled s) = text_of_words (schedule_words s) ++ notes_text s
