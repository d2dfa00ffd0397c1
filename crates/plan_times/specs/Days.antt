-- Days, as people write them: a date, a weekday, or a word. Each day has a number.
use Rattle.std.specs.Prelude.{ℕ, ◌+◌, ◌-◌, ◌%◌, Bool, ◌&&◌, ◌||◌, ◌==◌, nat_le, if◌then◌else◌, List, [], ◌∷◌, take, position, codes, Option, Some, None, pos, ◌+ℤ◌}
use Rattle.std.specs.Option.{option_map, option_or}
use Rattle.std.specs.Str.{str_eq_ignore_ascii_case}
use Rattle.jiff_core.specs.Calendar.{days_from_civil, days_in_month}
use Rattle.plan_clock.specs.Rows.{natural}
use Rattle.plan_spans.specs.Spans.{◌>>=◌}
use Rattle.plan_texts.specs.Text.{cut_at}
use Rattle.plan_times.specs.Parts.{number_of, cut_last_word}
use Rattle.plan_times.specs.declared.day.Day.{Day}
use Rattle.plan_times.specs.declared.day.Day.TheVariants.{Date, Yesterday, Today, Tomorrow, Weekday, Unnamed}

-- the number of the day 1970-01-01. It is a multiple of 7 and so large that no date has a negative number (agenda)
abbrev pub first_day : ℕ
first_day = 4_371_955

-- the weekday of a day, from 0 for Monday; 1970-01-01 was a Thursday (ISO 8601)
abbrev pub weekday : ℕ → ℕ
weekday day = (day + 3) % 7

-- the number of the first day at or after another that is such a weekday
abbrev pub next_weekday : ℕ → ℕ → ℕ
next_weekday wanted day = day + (wanted + 7 - weekday day) % 7

-- the calendar has this month, and it has this day (ISO 8601)
abbrev pub is_in_calendar : ℕ → ℕ → ℕ → Bool
is_in_calendar year month day =
    (nat_le 1 month && nat_le month 12) && (nat_le 1 day && nat_le day (days_in_month (pos year) month))

-- the number of a date's day; None if the calendar has no such date
abbrev pub day_of_date : ℕ → ℕ → ℕ → Option ℕ
day_of_date year month day =
    if is_in_calendar year month day then Some (natural (days_from_civil (pos year) month day +ℤ pos first_day)) else None

-- the day of a date, written YYYY-MM-DD (ISO 8601)
unfoldable pub date_of : List ℕ → Option ℕ
date_of text = do
  year ← cut_at (codes "-") text
  month ← cut_at (codes "-") (year.1)
  y ← number_of 4 10_000 (year.0)
  m ← number_of 2 100 (month.0)
  d ← number_of 2 100 (month.1)
  day_of_date y m d

-- the names of the weekdays, from 0 for Monday (systemd.time(7))
abbrev pub weekday_names : List (List ℕ)
weekday_names =
    codes "monday" ∷ codes "tuesday" ∷ codes "wednesday" ∷ codes "thursday" ∷ codes "friday" ∷ codes "saturday" ∷ codes "sunday" ∷ []

-- a weekday is named in full or by its first three letters, in any case (systemd.time(7))
abbrev pub names_weekday : List ℕ → List ℕ → Bool
names_weekday name full = str_eq_ignore_ascii_case name full || str_eq_ignore_ascii_case name (take 3 full)

-- the weekday of a name, from 0 for Monday
unfoldable pub weekday_of : List ℕ → Option ℕ
weekday_of name = position (names_weekday name) weekday_names

-- the date, if its weekday is this one (systemd.time(7))
abbrev pub if_on : ℕ → ℕ → Option Day
if_on wanted day = if weekday day == wanted then Some (Date day) else None

-- a weekday and a date, which have to agree (systemd.time(7))
unfoldable pub dated_weekday : List ℕ → Option Day
dated_weekday text = do
  parts ← cut_last_word text
  wanted ← weekday_of (parts.0)
  day ← date_of (parts.1)
  if_on wanted day

-- the day of a text that is one word, other than a date
abbrev pub day_of_word : List ℕ → Option Day
day_of_word text =
    if str_eq_ignore_ascii_case text (codes "today") then Some Today
    else (if str_eq_ignore_ascii_case text (codes "tomorrow") then Some Tomorrow
    else (if str_eq_ignore_ascii_case text (codes "yesterday") then Some Yesterday
    else option_map Weekday (weekday_of text)))

-- the day of a text: a word, a date, or a weekday with a date
unfoldable pub day_of : List ℕ → Option Day
day_of text = option_or (day_of_word text) (option_or (option_map Date (date_of text)) (dated_weekday text))

-- the number of the day that is meant, from the number of today, and from that of the day from which weekdays are counted
-- (systemd.time(7); a day that is not named: agenda)
abbrev pub day_meant : (today from : ℕ) → Day → ℕ
day_meant today from (Date day) = day
day_meant today from Yesterday = today - 1
day_meant today from Today = today
day_meant today from Tomorrow = today + 1
day_meant today from (Weekday wanted) = next_weekday wanted from
day_meant today from Unnamed = from

-- after so many days there is the next such day; 0 if there is no other (agenda)
abbrev pub days_to_next : Day → ℕ
days_to_next (Date day) = 0
days_to_next Yesterday = 0
days_to_next Today = 0
days_to_next Tomorrow = 0
days_to_next (Weekday wanted) = 7
days_to_next Unnamed = 1
