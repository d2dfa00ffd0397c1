-- How the days, months and years of a sentence are read, from left to right; two words ahead decide.
use Rattle.std.specs.Prelude.{ℕ, ◌-◌, ◌%◌, Bool, true, false, ◌&&◌, ◌||◌, List, [], ◌∷◌, Option, Some, None}
use Rattle.plan_words.specs.declared.names.Weekday.{Weekday}
use Rattle.plan_words.specs.declared.names.Month.{Month}
use Rattle.plan_words.specs.Words.{Keyword, Every, Of, And, Comma, On, The, Last, ADay, Odd, In, But, Where, Word}
use Rattle.plan_words.specs.Tree as tree
use Rattle.plan_words.specs.Tree.{Span, Values, Steps, Items, Dates, FromStart, FromEnd, LastDays, Week, WeekRun, WeekList, AnyDay, OnWeekdays, OnDates, OnNth, OnBoth, OnEither, Months, AllMonths, MonthRun, MonthList}
use Rattle.plan_sets.specs.Limits.{last_year}
use Rattle.plan_words.specs.ReadTime.{front, past, begins, number_of, is_number, weekday_of, is_weekday, is_weekdays, month_of, is_month, number_at, place_at, span_at, list_at, from_a, spans_at, some_items}

-- ---- months and years

-- the years from one on, after that one
abbrev pub year_run : ℕ → List Word → Option Values × List Word
year_run first words =
    elim (begins On words) [
      | true ↦ (Some (Items (record { first = first; last = last_year } ∷ [])), past words)
      | false ↦ (Some (Items (record { first = first; last = number_of (front (past words)) } ∷ [])), past (past words))
    ]

-- every so many years from one on, after that one
abbrev pub year_steps : (step first : ℕ) → List Word → Option Values × List Word
year_steps step first words =
    elim (begins On words) [
      | true ↦ (Some (Steps first (last_year - (last_year - first) % step) step), past words)
      | false ↦ (Some (Steps first (number_of (front (past words))) step), past (past words))
    ]

-- the years
abbrev pub years_at : List Word → Option Values × List Word
years_at words =
    elim (begins In words) [
      | true ↦
          elim (begins Every (past words)) [
            | true ↦
                year_steps (number_of (front (past (past words)))) (number_of (front (past (past (past (past (past words)))))))
                (past (past (past (past (past (past words))))))
            | false ↦ some_items (spans_at (past words))
          ]
      | false ↦
          elim (from_a is_number words) [
            | true ↦ year_run (number_of (front (past words))) (past (past words))
            | false ↦ (None, words)
          ]
    ]

-- months and years
abbrev pub When : Type 0
When = Months × Option Values

-- years after months
abbrev pub with_months : Months → Option Values × List Word → When × List Word
with_months months years = ((months, years.0), years.1)

-- a month
abbrev pub month_at : List Word → Month × List Word
month_at words = (month_of (front words), past words)

-- whether a list has one month
abbrev pub is_one_name : List Month → Bool
is_one_name [] = false
is_one_name (x ∷ []) = true
is_one_name (x ∷ y ∷ more) = false

-- the years after names of months; a number after a single one is a year
abbrev pub after_names : List Month × List Word → When × List Word
after_names list =
    elim (is_one_name list.0 && is_number (front list.1)) [
      | true ↦ (
        (MonthList list.0, Some (Items (record { first = number_of (front list.1); last = number_of (front list.1) } ∷ []))),
        past list.1,
      )
      | false ↦ with_months (MonthList list.0) (years_at list.1)
    ]

-- months without a list, and the years
abbrev pub month_run_at : List Word → When × List Word
month_run_at words =
    elim (from_a is_month words) [
      | true ↦
          with_months (MonthRun (month_of (front (past words))) (month_of (front (past (past (past words))))))
          (years_at (past (past (past (past words)))))
      | false ↦ with_months AllMonths (years_at words)
    ]

-- whether the name of a month comes after a word
abbrev pub is_named : Keyword → List Word → Bool
is_named k words = begins k words && is_month (front (past words))

-- months and years, after dates or after other days
abbrev pub when_at : (after_dates : Bool) → List Word → When × List Word
when_at true words =
    elim (is_named Of words) [ true ↦ after_names (list_at month_at (past words)) | false ↦ month_run_at (past (past (past words))) ]
when_at false words = elim (is_named In words) [ true ↦ after_names (list_at month_at (past words)) | false ↦ month_run_at words ]

-- ---- days

-- days, with their months and years
abbrev pub Read : Type 0
Read = tree.Days × When

-- a weekday
abbrev pub weekday_at : List Word → Weekday × List Word
weekday_at words = (weekday_of (front words), past words)

-- weekdays, in the plural or from one to another
abbrev pub weekdays_at : List Word → Week
weekdays_at words =
    elim (begins On words) [
      | true ↦ WeekList (list_at weekday_at (past words)).0
      | false ↦ WeekRun (weekday_of (front (past words))) (weekday_of (front (past (past (past words)))))
    ]

-- after `on every`
abbrev pub each_weekday_at : List Word → Week
each_weekday_at words =
    elim (begins ADay words) [
      | true ↦ WeekRun (weekday_of (front (past (past words)))) (weekday_of (front (past (past (past (past words))))))
      | false ↦ WeekList (list_at weekday_at words).0
    ]

-- whether a word comes after a comma
abbrev pub after_comma : Keyword → List Word → Bool
after_comma k words = begins Comma words && begins k (past words)

-- the weekdays after dates, months and years
abbrev pub dates_with : Dates → When → List Word → Read
dates_with dates when words =
    elim (after_comma But words) [
      | true ↦ (OnBoth dates (weekdays_at (past (past (past words)))), when)
      | false ↦
          elim (after_comma And words) [
            | true ↦ (OnEither dates (each_weekday_at (past (past (past (past (past words)))))), when)
            | false ↦ (OnDates dates, when)
          ]
    ]

-- `where it exists` says nothing that the tree lacks
abbrev pub without_lack : Dates → When × List Word → Read
without_lack dates when =
    elim (after_comma Where when.1) [
      | true ↦ dates_with dates when.0 (past (past (past (past when.1))))
      | false ↦ dates_with dates when.0 when.1
    ]

-- what comes after dates
abbrev pub after_dates_at : Dates → List Word → Read
after_dates_at dates words = without_lack dates (when_at true words)

-- days before months and years
abbrev pub with_days : tree.Days → When × List Word → Read
with_days days when = (days, when.0)

-- the first number of the first span
abbrev pub first_of : List Span → ℕ
first_of [] = 0
first_of (x ∷ xs) = x.first

-- a weekday after places or days is the k-th of its kind
abbrev pub after_places : List Span × List Word → Read
after_places list =
    elim (is_weekday (front list.1)) [
      | true ↦ with_days (OnNth (first_of list.0) true (weekday_of (front list.1))) (when_at true (past list.1))
      | false ↦ after_dates_at (FromEnd (Items list.0)) (past list.1)
    ]

-- the same after numbers of days
abbrev pub after_ordinals : List Span × List Word → Read
after_ordinals list =
    elim (is_weekday (front list.1)) [
      | true ↦ with_days (OnNth (first_of list.0) false (weekday_of (front list.1))) (when_at true (past list.1))
      | false ↦ after_dates_at (FromStart (Items list.0)) list.1
    ]

-- whether a place from the month's end comes next
abbrev pub is_place : List Word → Bool
is_place words = begins Last words || begins Last (past words)

-- after `on the`
abbrev pub the_at : List Word → Read
the_at words =
    elim (begins Last words && is_number (front (past words))) [
      | true ↦ after_dates_at (LastDays (number_of (front (past words)))) (past (past (past words)))
      | false ↦
          elim (is_place words) [
            | true ↦ after_places (list_at (span_at place_at) words)
            | false ↦ after_ordinals (list_at (span_at number_at) words)
          ]
    ]

-- the second place of a step, after the first
abbrev pub place_steps : ℕ → ℕ × List Word → Read
place_steps step first =
    let last = place_at (past (past first.1)) in after_dates_at (FromEnd (Steps first.0 last.0 step)) (past last.1)

-- after `on every .. day from the`
abbrev pub stepped_at : ℕ → List Word → Read
stepped_at step words =
    elim (is_place words) [
      | true ↦ place_steps step (place_at words)
      | false ↦
          after_dates_at (FromStart (Steps (number_of (front words)) (number_of (front (past (past (past words))))) step))
          (past (past (past (past words))))
    ]

-- dates, after `on`
abbrev pub dates_at : List Word → Read
dates_at words =
    elim (begins The words) [
      | true ↦ the_at (past words)
      | false ↦
          elim (begins Every words) [
            | true ↦ stepped_at (number_of (front (past words))) (past (past (past (past (past words)))))
            | false ↦
                elim (begins Odd words) [
                  | true ↦ after_dates_at (FromStart (Steps 1 31 2)) (past (past words))
                  | false ↦ after_dates_at (FromStart (Steps 2 30 2)) (past (past words))
                ]
          ]
    ]

-- months and years after a list of weekdays
abbrev pub listed_weekdays : List Weekday × List Word → Read
listed_weekdays list = with_days (OnWeekdays (WeekList list.0)) (when_at false list.1)

-- after `on`
abbrev pub on_at : List Word → Read
on_at words =
    elim (is_weekdays (front words)) [
      | true ↦ listed_weekdays (list_at weekday_at words)
      | false ↦
          elim (begins Every words && begins ADay (past words)) [
            | true ↦ with_days AnyDay (when_at false (past (past words)))
            | false ↦ dates_at words
          ]
    ]

-- the days, after the time
abbrev pub days_at : List Word → Read
days_at words =
    elim (begins On words) [
      | true ↦ on_at (past words)
      | false ↦
          elim (from_a is_weekday words) [
            | true ↦
                with_days (OnWeekdays (WeekRun (weekday_of (front (past words))) (weekday_of (front (past (past (past words)))))))
                (when_at false (past (past (past (past words)))))
            | false ↦ (AnyDay, (AllMonths, None))
          ]
    ]
