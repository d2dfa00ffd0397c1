-- The month of a day, from its civil fields.
-- `IsDateOf-day` is for every answer of `Month::of_day`. The fields at a day's midnight are a date of the calendar in
-- the planner's years, and `IsDayOf-civil_fields` gives the first day of its month.
use Rattle.std.proofs.Common.{◌≡◌, ℕ, ◌+◌, ◌-◌, ◌*◌, ◌/◌, ◌%◌, ◌<◌, ◌≤◌, refl, arith}
use Rattle.std.specs.Int.{IsInRange}
use Rattle.plan_sets.specs.declared.civil.Civil.{Civil}
use Rattle.plan_sets.specs.Limits.{first_year, last_year, seconds_a_day}
use Rattle.plan_sets.specs.Civil.{civil_fields, length_of_month}
use Rattle.plan_sets.specs.CivilLaws.{IsCivilOf-civil_fields, IsInRange-year}
use Rattle.plan_sets.specs.Months.{days_of_month, month_number, IsFirstDay}
use Rattle.plan_sets.specs.MonthsLaws.{IsDayOf-civil_fields}
use Rattle.plan_next.specs.Search.{end_day}

-- the fields of a day's date, and the month that they show
pub record IsDateOf (day : ℕ) (c : Civil) : Type 0 where
  pub year : IsInRange first_year last_year c.year
  pub month : IsInRange 1 12 c.month
  pub low : 1 ≤ c.day
  pub high : c.day ≤ day + 1
  pub within : c.day ≤ length_of_month c.year c.month
  pub first_day : IsFirstDay (c.year * 12 + (c.month - 1)) (day + 1 - c.day)
  pub length : days_of_month (c.year * 12 + (c.month - 1)) ≡ length_of_month c.year c.month

IsDateOf-fields : (day : ℕ) → day < end_day → IsDateOf day (civil_fields (day * seconds_a_day))
IsDateOf-fields day h =
    let n = day * seconds_a_day in
    let c = civil_fields n in
    let fields = IsCivilOf-civil_fields n (omega arith) in
    let years = IsInRange-year n c fields (omega arith) in
    let last = years.1 (omega arith) in
    let from = years.0.0 in
    let low : 1 ≤ c.month = fields.date.1.0 in
    let high : c.month ≤ 12 = fields.date.1.1 in
    let here : day ≡ n / seconds_a_day = omega arith in
    let begins = IsDayOf-civil_fields n (day + 1 - c.day) (omega arith) (rw (← here) refl) in
    let reached = begins.from in
    let number : c.year * 12 + (c.month - 1) ≡ month_number c = omega arith in
    let year : month_number c / 12 ≡ c.year = omega arith in
    let month : month_number c % 12 + 1 ≡ c.month = omega arith in
    record {
      year = (from, last);
      month = (low, high);
      low = fields.date.2.0;
      high = omega arith;
      within = fields.date.2.1;
      first_day = rw number begins.first_day;
      length = rw (number, year, month) refl;
    }

pub IsDateOf-day : (day : ℕ) (c : Civil) → day < end_day → c ≡ civil_fields (day * seconds_a_day) → IsDateOf day c
IsDateOf-day day c h is = rw is (IsDateOf-fields day h)
