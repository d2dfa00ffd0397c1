-- Months numbered in a row, the first day of each, and the days of a month.
use Rattle.std.specs.Prelude.{◌≡◌, ℕ, ◌+◌, ◌-◌, ◌*◌, ◌/◌, ◌%◌, ◌<◌, ◌≤◌, pos}
use Rattle.jiff_core.specs.Calendar.{days_from_civil}
use Rattle.plan_sets.specs.declared.civil.Civil.{Civil}
use Rattle.plan_sets.specs.Civil.{length_of_month}

-- the number of the month of civil fields: January of year 0 is month 0, January of year 1 is month 12 (agenda)
abbrev pub month_number : Civil → ℕ
month_number civil = 12 * civil.year + (civil.month - 1)

-- `day` is the day number of the first day of that month
abbrev pub IsFirstDay : (month day : ℕ) → Type 0
IsFirstDay month day = days_from_civil (pos (month / 12)) (month % 12 + 1) 1 ≡ pos day

-- a day is before the first day of a month exactly if its own month is earlier
pub record ComesBefore (month first day : ℕ) (c : Civil) : Type 0 where
  pub before : month_number c < month → day < first
  pub from : month ≤ month_number c → first ≤ day

-- the number of days in that month
abbrev pub days_of_month : ℕ → ℕ
days_of_month month = length_of_month (month / 12) (month % 12 + 1)

-- the fields of the day with the number `day`, at midnight, if its month starts with day `first`: the days of the month and of
-- the week count up by one
abbrev pub day_of_month : (month first day : ℕ) → Civil
day_of_month month first day = record {
  year = month / 12;
  month = month % 12 + 1;
  day = day - first + 1;
  weekday = (day + 3) % 7;
  hour = 0;
  minute = 0;
  second = 0;
}
