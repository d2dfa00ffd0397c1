-- How the time of a sentence is read, from left to right; two words ahead decide.
use Rattle.std.specs.Prelude.{ℕ, zero, suc, Bool, true, false, not, ◌&&◌, ◌||◌, List, [], ◌∷◌, length, Option, Some, None}
use Rattle.plan_words.specs.declared.names.TimeUnit.{TimeUnit}
use Rattle.plan_words.specs.declared.names.TimeUnit.TheVariants.{Second, Minute, Hour}
use Rattle.plan_words.specs.declared.names.Weekday.{Weekday}
use Rattle.plan_words.specs.declared.names.Weekday.TheVariants as day
use Rattle.plan_words.specs.declared.names.Month.{Month}
use Rattle.plan_words.specs.declared.names.Month.TheVariants as month
use Rattle.plan_words.specs.Words.{Keyword, At, Every, From, To, Of, And, Comma, Last, But, Where, Exist, Word, Key, Number, Ordinal, Clock, ClockSeconds, ADayOfWeek, DaysOfWeek, NameOfMonth, OneUnit, ManyUnits, is_keyword}
use Rattle.plan_words.specs.Tree.{Span, Values, Steps, Items, TimeOfDay, Window, Lead, Cycle, Among, Hours, AllHours, HourSteps, HourList, Time, Listed, WholeDay, Windows, Minutes, Seconds}

-- ---- what comes next

-- the first word; without one, the last keyword
abbrev pub front : List Word → Word
front [] = Key Exist
front (w ∷ ws) = w

-- the words after the first
abbrev pub past : List Word → List Word
past [] = []
past (w ∷ ws) = ws

-- whether a keyword comes first
abbrev pub begins : Keyword → List Word → Bool
begins k [] = false
begins k (w ∷ ws) = is_keyword k w

-- the number of a word
abbrev pub number_of : Word → ℕ
number_of (Number n) = n
number_of (Ordinal n) = n
number_of _ = 0

-- whether a word is a number, and no ordinal
abbrev pub is_number : Word → Bool
is_number (Number n) = true
is_number _ = false

-- the time of day of a word
abbrev pub clock_of : Word → TimeOfDay
clock_of (Clock h m) = record { hour = h; minute = m; second = 0 }
clock_of (ClockSeconds h m s) = record { hour = h; minute = m; second = s }
clock_of _ = record { hour = 0; minute = 0; second = 0 }

-- whether a word is a time of day
abbrev pub is_clock : Word → Bool
is_clock (Clock h m) = true
is_clock (ClockSeconds h m s) = true
is_clock _ = false

-- the unit of a word
abbrev pub unit_of : Word → TimeUnit
unit_of (OneUnit u) = u
unit_of (ManyUnits u) = u
unit_of _ = Hour

-- whether a word is a unit in the singular
abbrev pub is_unit : Word → Bool
is_unit (OneUnit u) = true
is_unit _ = false

-- the weekday of a word
abbrev pub weekday_of : Word → Weekday
weekday_of (ADayOfWeek w) = w
weekday_of (DaysOfWeek w) = w
weekday_of _ = day.Monday

-- whether a word is a weekday in the singular
abbrev pub is_weekday : Word → Bool
is_weekday (ADayOfWeek w) = true
is_weekday _ = false

-- whether a word is a weekday in the plural
abbrev pub is_weekdays : Word → Bool
is_weekdays (DaysOfWeek w) = true
is_weekdays _ = false

-- the month of a word
abbrev pub month_of : Word → Month
month_of (NameOfMonth m) = m
month_of _ = month.January

-- whether a word is a month
abbrev pub is_month : Word → Bool
is_month (NameOfMonth m) = true
is_month _ = false

-- ---- lists

-- a comma that no value follows ends a list: `where`, `but` and `and` are no values
abbrev pub ends_list : Word → Bool
ends_list w = is_keyword Where w || (is_keyword But w || is_keyword And w)

-- whether a list goes on after a comma
abbrev pub goes_on : List Word → Bool
goes_on words = begins Comma words && not (ends_list (front (past words)))

-- a value and the words after it
abbrev pub number_at : List Word → ℕ × List Word
number_at words = (number_of (front words), past words)

-- a place from the month's end: `last` alone is 1
abbrev pub place_at : List Word → ℕ × List Word
place_at words = elim (begins Last words) [ true ↦ (1, past words) | false ↦ (number_of (front words), past (past words)) ]

-- a span, whose first value has been read
abbrev pub span_from : (List Word → ℕ × List Word) → ℕ × List Word → Span × List Word
span_from value_at (first, words) =
    elim (begins To words) [
      | true ↦ let last = value_at (past words) in (record { first = first; last = last.0 }, last.1)
      | false ↦ (record { first = first; last = first }, words)
    ]

-- a span: a value, or two with `to` between them
abbrev pub span_at : (List Word → ℕ × List Word) → List Word → Span × List Word
span_at value_at words = span_from value_at (value_at words)

-- one more item before a list
abbrev pub with_first : {A : Type 0} → A → List A × List Word → List A × List Word
with_first x list = (x ∷ list.0, list.1)

-- the list that begins with an item; `more` reads a list after a comma
abbrev pub list_after : {A : Type 0} → (List Word → A × List Word) → (more : List Word → List A × List Word) → A × List Word → List A × List Word
list_after item_at more x =
    elim (begins And x.1) [
      | true ↦ let y = item_at (past x.1) in (x.0 ∷ y.0 ∷ [], y.1)
      | false ↦ elim (goes_on x.1) [ true ↦ with_first x.0 (more (past x.1)) | false ↦ (x.0 ∷ [], x.1) ]
    ]

-- a list of at most so many items
unfoldable pub list_by : {A : Type 0} → (List Word → A × List Word) → ℕ → List Word → List A × List Word
list_by item_at zero words = ([], words)
list_by item_at (suc k) words = list_after item_at (λ ws. list_by item_at k ws) (item_at words)

-- a list; it has no more items than there are words
abbrev pub list_at : {A : Type 0} → (List Word → A × List Word) → List Word → List A × List Word
list_at item_at words = list_by item_at (suc (length words)) words

-- ---- time

-- whether a word of a kind comes after `from`
abbrev pub from_a : (Word → Bool) → List Word → Bool
from_a test words = begins From words && test (front (past words))

-- a time of day
abbrev pub clock_at : List Word → TimeOfDay × List Word
clock_at words = (clock_of (front words), past words)

-- after `from`
abbrev pub window_at : List Word → Window × List Word
window_at words =
    (record { first = clock_of (front (past words)); last = clock_of (front (past (past (past words)))) }, past (past (past (past words))))

-- numbers, or the list of spans, after the unit
abbrev pub spans_at : List Word → List Span × List Word
spans_at words = list_at (span_at number_at) words

-- the hours after `of every`, with a step
abbrev pub hours_by : ℕ → List Word → Hours × List Word
hours_by step words =
    elim (from_a is_clock (past words)) [
      | true ↦
          let window = window_at (past words) in (HourSteps window.0.first.hour window.0.last.hour step, window.1)
      | false ↦ (AllHours, past words)
    ]

-- the hours after `of every`
abbrev pub every_hours_at : List Word → Hours × List Word
every_hours_at words =
    elim (is_unit (front words)) [ true ↦ hours_by 1 words | false ↦ hours_by (number_of (front words)) (past words) ]

-- hours from a list
abbrev pub hour_list : List ℕ × List Word → Hours × List Word
hour_list list = (HourList list.0, list.1)

-- the hours, after `of`
abbrev pub hours_at : List Word → Hours × List Word
hours_at words = elim (begins Every words) [ true ↦ every_hours_at (past words) | false ↦ hour_list (list_at number_at (past words)) ]

-- values from a list of spans
abbrev pub some_items : List Span × List Word → Option Values × List Word
some_items list = (Some (Items list.0), list.1)

-- the minutes after `of every`
abbrev pub every_minutes_at : List Word → Option Values × List Word
every_minutes_at words =
    elim (is_unit (front words)) [
      | true ↦ (None, past words)
      | false ↦ (
        Some (Steps (number_of (front (past (past (past words))))) (number_of (front (past (past (past (past (past words))))))) (number_of (front words))),
        past (past (past (past (past (past words))))),
      )
    ]

-- the minutes, after `of`
abbrev pub minutes_at : List Word → Option Values × List Word
minutes_at words = elim (begins Every words) [ true ↦ every_minutes_at (past words) | false ↦ some_items (spans_at (past words)) ]

-- the minutes of hours
abbrev pub with_hours : Lead → Hours × List Word → Time × List Word
with_hours lead hours = (Minutes lead hours.0, hours.1)

-- the seconds of minutes of hours
abbrev pub with_all : Lead → Option Values → Hours × List Word → Time × List Word
with_all lead minutes hours = (Seconds lead minutes hours.0, hours.1)

-- the hours after the minutes, if any are said
abbrev pub after_minutes : Lead → Option Values × List Word → Time × List Word
after_minutes lead minutes =
    elim (begins Of minutes.1) [
      | true ↦ with_all lead minutes.0 (hours_at (past minutes.1))
      | false ↦ with_all lead minutes.0 (AllHours, minutes.1)
    ]

-- what comes after the smallest unit, at `of`
abbrev pub parts_at : TimeUnit → Lead → List Word → Time × List Word
parts_at Minute lead words = with_hours lead (hours_at (past words))
parts_at Second lead words = after_minutes lead (minutes_at (past words))
parts_at Hour lead words = (Minutes lead AllHours, words)

-- the parts after a list of values of the smallest unit
abbrev pub lead_items : TimeUnit → List Span × List Word → Time × List Word
lead_items unit list = parts_at unit (Among (Items list.0)) list.1

-- times from a list
abbrev pub listed : List TimeOfDay × List Word → Time × List Word
listed list = (Listed list.0, list.1)

-- after `at`
abbrev pub at_time : List Word → Time × List Word
at_time words =
    elim (is_clock (front words)) [
      | true ↦ listed (list_at clock_at words)
      | false ↦ lead_items (unit_of (front words)) (spans_at (past words))
    ]

-- windows from a list, with their step
abbrev pub windowed : ℕ → TimeUnit → List Window × List Word → Time × List Word
windowed count unit list = (Windows count unit list.0, list.1)

-- after the unit behind `every`
abbrev pub after_unit : ℕ → TimeUnit → List Word → Time × List Word
after_unit count unit words =
    elim (from_a is_clock words) [
      | true ↦ windowed count unit (list_at window_at words)
      | false ↦
          elim (from_a is_unit words) [
            | true ↦
                parts_at unit (Among (Steps (number_of (front (past (past words)))) (number_of (front (past (past (past (past words)))))) count))
                (past (past (past (past (past words)))))
            | false ↦ elim (begins Of words) [ true ↦ parts_at unit (Cycle count) words | false ↦ (WholeDay count unit, words) ]
          ]
    ]

-- after `every`
abbrev pub every_time : List Word → Time × List Word
every_time words =
    elim (is_number (front words)) [
      | true ↦ after_unit (number_of (front words)) (unit_of (front (past words))) (past (past words))
      | false ↦ after_unit 1 (unit_of (front words)) (past words)
    ]

-- the time, at the start of a sentence
abbrev pub time_at : List Word → Time × List Word
time_at words = elim (begins At words) [ true ↦ at_time (past words) | false ↦ every_time (past words) ]
