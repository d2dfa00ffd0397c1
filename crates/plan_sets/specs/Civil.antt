-- Civil fields of a second in UTC, in jiff's calendar: the proleptic Gregorian calendar of ISO 8601, without leap seconds.
use Rattle.std.specs.Prelude.{◌≡◌, ℕ, zero, suc, ◌+◌, ◌-◌, ◌*◌, ◌/◌, ◌%◌, ◌<◌, true, false, nat_lt, ℤ, pos, ◌+ℤ◌, ◌*ℤ◌}
use Rattle.std.specs.Int.{IsInRange}
use Rattle.jiff_core.specs.Calendar.{IsCivilDate, days_from_civil, days_in_month, days_in_year}
use Rattle.plan_sets.specs.declared.civil.Civil.{Civil}
use Rattle.plan_sets.specs.Limits.{first_year, last_year, seconds_a_day}

-- the number of days in a month of a year (ISO 8601)
abbrev pub length_of_month : ℕ → ℕ → ℕ
length_of_month year month = days_in_month (pos year) month

-- a time of day (ISO 8601, without leap seconds and 24:00:00)
abbrev pub IsTimeOfDay : ℕ → ℕ → ℕ → Type 0
IsTimeOfDay hour minute second = (hour < 24) × (minute < 60) × (second < 60)

-- the number of seconds from midnight to a time of day
abbrev pub seconds_of_day : ℕ → ℕ → ℕ → ℕ
seconds_of_day hour minute second = (hour * 60 + minute) * 60 + second

-- c has the fields of second n: its date is the one with the day number of n, and its time of day is the rest (POSIX, "Seconds
-- Since the Epoch"; weekdays from Monday: agenda)
pub record IsCivilOf (n : ℕ) (c : Civil) : Type 0 where
  pub date : IsCivilDate (pos c.year) c.month c.day
  pub day_number : days_from_civil (pos c.year) c.month c.day ≡ pos (n / seconds_a_day)
  pub weekday : c.weekday ≡ (n / seconds_a_day + 3) % 7
  pub time : IsTimeOfDay c.hour c.minute c.second
  pub time_of_day : seconds_of_day c.hour c.minute c.second ≡ n % seconds_a_day

-- the year, and the day in it counted from 0, of the day that is `day` days after 1 January of `year`: one year at a time,
-- through at most `most` years
unfoldable pub year_and_day : ℕ → ℕ → ℕ → ℕ × ℕ
year_and_day zero year day = (year, day)
year_and_day (suc most) year day =
    elim (nat_lt day (days_in_year (pos year))) [
      | true ↦ (year, day)
      | false ↦ year_and_day most (suc year) (day - days_in_year (pos year))
    ]

-- the month, and the day in it counted from 1, of the day that is `day` days after the first of `month`: one month at a time,
-- through at most `most` months
unfoldable pub month_and_day : ℕ → ℤ → ℕ → ℕ → ℕ × ℕ
month_and_day zero year month day = (month, day + 1)
month_and_day (suc most) year month day =
    elim (nat_lt day (days_in_month year month)) [
      | true ↦ (month, day + 1)
      | false ↦ month_and_day most year (suc month) (day - days_in_month year month)
    ]

-- the fields of a second, computed: whole years from 1970, then whole months, then the remaining days. `IsCivilOf` says what the
-- fields mean; `IsCivilOf-civil_fields` proves that these are the ones
unfoldable pub civil_fields : ℕ → Civil
civil_fields n =
    let days = n / seconds_a_day in
    let time = n % seconds_a_day in
    let in_year = year_and_day days first_year days in
    let in_month = month_and_day 11 (pos in_year.0) 1 in_year.1 in
    record {
      year = in_year.0;
      month = in_month.0;
      day = in_month.1;
      weekday = (days + 3) % 7;
      hour = time / 3600;
      minute = time / 60 % 60;
      second = time % 60;
    }

-- the calendar has this date, and a day has this time (ISO 8601)
abbrev pub IsDateTime : ℕ → ℕ → ℕ → ℕ → ℕ → ℕ → Type 0
IsDateTime year month day hour minute second =
    IsCivilDate (pos year) month day × IsTimeOfDay hour minute second

-- the same, in the supported years (agenda)
abbrev pub IsDateTimeInYears : ℕ → ℕ → ℕ → ℕ → ℕ → ℕ → Type 0
IsDateTimeInYears year month day hour minute second =
    IsInRange first_year last_year year × IsDateTime year month day hour minute second

-- the seconds from 1970-01-01T00:00:00Z to a date and time, negative for earlier ones
abbrev pub second_number : ℕ → ℕ → ℕ → ℕ → ℕ → ℕ → ℤ
second_number year month day hour minute second =
    days_from_civil (pos year) month day *ℤ pos seconds_a_day +ℤ pos (seconds_of_day hour minute second)

-- the fields are those of this date and time
abbrev pub Shows : Civil → ℕ → ℕ → ℕ → ℕ → ℕ → ℕ → Type 0
Shows c year month day hour minute second =
    (c.year ≡ year) × (c.month ≡ month) × (c.day ≡ day)
    × (c.hour ≡ hour) × (c.minute ≡ minute) × (c.second ≡ second)

-- a and b have the same date and weekday
pub record SameDate (a b : Civil) : Type 0 where
  pub year : a.year ≡ b.year
  pub month : a.month ≡ b.month
  pub day : a.day ≡ b.day
  pub weekday : a.weekday ≡ b.weekday

-- c has the time of day of second n
pub record IsTime (n : ℕ) (c : Civil) : Type 0 where
  pub hour : c.hour ≡ n % seconds_a_day / 3600
  pub minute : c.minute ≡ n % seconds_a_day / 60 % 60
  pub second : c.second ≡ n % seconds_a_day % 60
