-- Laws of months in a row: a day is in a month or a later one exactly from the first day of that month on, and within a month the
-- days count up by one.
use Rattle.std.proofs.Common.{◌≡◌, ℕ, ◌+◌, ◌-◌, ◌*◌, ◌/◌, ◌%◌, ◌<◌, ◌≤◌, inl, inr, refl, sym, arith, pos, ◌<ℤ◌, ◌≤ℤ◌}
use Rattle.std.proofs.lemmas.Bool.{cases_lt}
use Rattle.jiff_core.specs.Calendar.{days_from_civil, IsCivilDate}
use Rattle.jiff_core.proofs.SignedLemmas.{signed_arith}
use Rattle.jiff_core.proofs.CalendarLemmas.{day_count-day, day_count-last_of_year, day_count-lt_month, day_count-lt_year, day_count-next_month, day_count-next_year, days_from_civil-day_count, days_in_month_bounds}
use Rattle.plan_sets.specs.declared.civil.Civil.{Civil}
use Rattle.plan_sets.specs.Limits.{end_second, first_year, last_year, seconds_a_day}
use Rattle.plan_sets.specs.Civil.{civil_fields, IsCivilOf}
use Rattle.plan_sets.specs.Months.{day_of_month, days_of_month, month_number, ComesBefore, IsFirstDay}
use Rattle.plan_sets.specs.CivilLaws.{days_from_civil-before_year, days_from_civil-end, days_from_civil-first, days_from_civil-from_year, IsCivilOf-civil_fields, IsCivilOf-unique, IsInRange-year}

-- the month's first day is a date
IsCivilDate-first : (month : ℕ) → month < 120000 → IsCivilDate (pos (month / 12)) (month % 12 + 1) 1
IsCivilDate-first month h = (
  (omega (arith, signed_arith), omega (arith, signed_arith)),
  (omega arith, omega arith),
  (omega arith, omega (arith, days_in_month_bounds (pos (month / 12)) (month % 12 + 1))),
)

-- a date of an earlier month is before the first day of a later one
before_first :
    (month y m d : ℕ) → IsCivilDate (pos y) m d → 12 * y + (m - 1) < month →
    days_from_civil (pos y) m d <ℤ days_from_civil (pos (month / 12)) (month % 12 + 1) 1
before_first month y m d date lt =
    elim (cases_lt y (month / 12)) [
      | inl earlier ↦
          omega (
            arith,
            signed_arith,
            days_from_civil-day_count,
            day_count-lt_year (pos y) m d (pos (month / 12))
                (month % 12 + 1) 1 date (omega arith) (omega (arith, signed_arith)),
          )
      | inr from ↦
          let low : 1 ≤ m = date.1.0 in
          let high : m ≤ 12 = date.1.1 in
          let same : month / 12 ≡ y = omega arith in
          rw same (omega (
            arith,
            signed_arith,
            days_from_civil-day_count,
            day_count-lt_month (pos y) m d (month % 12 + 1) 1 date
                (omega arith) (omega arith),
          ))
    ]

-- a date of that month or a later one is not before the first day
from_first :
    (month y m d : ℕ) → month < 120000 → IsCivilDate (pos y) m d → month ≤ 12 * y + (m - 1) →
    days_from_civil (pos (month / 12)) (month % 12 + 1) 1 ≤ℤ days_from_civil (pos y) m d
from_first month y m d known date le =
    let first = IsCivilDate-first month known in
    let low : 1 ≤ m = date.1.0 in
    let high : m ≤ 12 = date.1.1 in
    elim (cases_lt (month / 12) y) [
      | inl later ↦
          omega (
            arith,
            signed_arith,
            days_from_civil-day_count,
            day_count-lt_year (pos (month / 12)) (month % 12 + 1) 1
                (pos y) m d first date.2.0 (omega (arith, signed_arith)),
          )
      | inr until ↦
          let same : month / 12 ≡ y = omega arith in
          elim (cases_lt (month % 12 + 1) m) [
            | inl later ↦
                rw same (omega (
                  arith,
                  signed_arith,
                  days_from_civil-day_count,
                  day_count-lt_month (pos y) (month % 12 + 1) 1 m d
                      (rw same at first) date.2.0 later,
                ))
            | inr here ↦
                let same_month : month % 12 + 1 ≡ m = omega arith in
                rw (same, same_month) (omega (
                  arith,
                  signed_arith,
                  days_from_civil-day_count,
                  day_count-day (pos y) m d 1 date.2.0
                      (omega arith),
                  date.2.0,
                ))
          ]
    ]

pub ComesBefore-first_day :
    (month first n : ℕ) → month < 120000 → IsFirstDay month first → n ≤ end_second →
    ComesBefore month first (n / seconds_a_day) (civil_fields n)
ComesBefore-first_day month first n known is h =
    let c = civil_fields n in
    let fields = IsCivilOf-civil_fields n h in
    record {
      before = λ lt. omega (arith, signed_arith, fields.day_number, before_first month c.year c.month c.day fields.date lt);
      from = λ le. omega (arith, signed_arith, fields.day_number, from_first month c.year c.month c.day known fields.date le);
    }

-- the end is the first day of a month
pub IsFirstDay-end : (month : ℕ) → month ≡ (last_year + 1) * 12 → IsFirstDay month (end_second / seconds_a_day)
IsFirstDay-end month e = rw e days_from_civil-end

-- the range of the months of all seconds before the end
pub IsInRange-month_number :
    (n : ℕ) → n < end_second →
    (first_year * 12 ≤ month_number (civil_fields n)) × (month_number (civil_fields n) < (last_year + 1) * 12)
IsInRange-month_number n h =
    let c = civil_fields n in
    let fields = IsCivilOf-civil_fields n (omega arith) in
    let years = IsInRange-year n c fields (omega arith) in
    let last : c.year ≤ last_year = years.1 h in
    let first : first_year ≤ c.year = years.0.0 in
    let low : 1 ≤ c.month = fields.date.1.0 in
    let high : c.month ≤ 12 = fields.date.1.1 in
    (omega arith, omega arith)

-- no month up to the one after the last year starts after the end
pub IsFirstDay-le_end : (month first : ℕ) → month ≤ (last_year + 1) * 12 → IsFirstDay month first → first ≤ end_second / seconds_a_day
IsFirstDay-le_end month first known is =
    elim (cases_lt (month / 12) (last_year + 1)) [
      | inl before ↦
          omega (
            arith,
            signed_arith,
            days_from_civil-end,
            days_from_civil-before_year (month / 12) (month % 12 + 1) 1
                (last_year + 1) (IsCivilDate-first month (omega arith)) before,
          )
      | inr end ↦
          let at_end : month ≡ (last_year + 1) * 12 = omega arith in
          omega (arith, signed_arith, IsFirstDay-end month at_end)
    ]

-- the next month starts where the days of a month end
pub IsFirstDay-next : (month first : ℕ) → month < 120000 → IsFirstDay month first → IsFirstDay (month + 1) (first + days_of_month month)
IsFirstDay-next month first known is =
    elim (cases_lt (month % 12) 11) [
      | inl within ↦
          let same : (month + 1) / 12 ≡ month / 12 = omega arith in
          let next : (month + 1) % 12 + 1 ≡ month % 12 + 1 + 1 = omega arith in
          rw (same, next) (omega (
            arith,
            signed_arith,
            days_from_civil-day_count,
            day_count-next_month (pos (month / 12))
                (month % 12 + 1) (omega arith),
          ))
      | inr december ↦
          let next : (month + 1) / 12 ≡ month / 12 + 1 = omega arith in
          let january : (month + 1) % 12 + 1 ≡ 1 = omega arith in
          let last : month % 12 + 1 ≡ 12 = omega arith in
          let begun = rw last at is in
          rw (next, january, last) (omega (
            arith,
            signed_arith,
            days_from_civil-day_count,
            day_count-last_of_year (pos (month / 12)),
            day_count-day
                (pos (month / 12)) 12 31 1 (omega arith) (omega arith),
            day_count-next_year (pos (month / 12)) (pos (month / 12 + 1))
                (omega (arith, signed_arith)) (omega (arith, signed_arith)),
          ))
    ]

-- `first` is the day number of the first day of the month of c, counted back from the day of second n
pub record IsDayOf (n first : ℕ) (c : Civil) : Type 0 where
  pub from : c.day ≤ n / seconds_a_day + 1
  pub first_day : IsFirstDay (month_number c) first

pub IsDayOf-civil_fields :
    (n first : ℕ) → n < end_second → first ≡ n / seconds_a_day + 1 - (civil_fields n).day → IsDayOf n first (civil_fields n)
IsDayOf-civil_fields n first h is =
    let c = civil_fields n in
    let fields = IsCivilOf-civil_fields n (omega arith) in
    let years = IsInRange-year n c fields (omega arith) in
    let from : first_year ≤ c.year = years.0.0 in
    let low : 1 ≤ c.month = fields.date.1.0 in
    let high : c.month ≤ 12 = fields.date.1.1 in
    let year : month_number c / 12 ≡ c.year = omega arith in
    let of_year : month_number c % 12 + 1 ≡ c.month = omega arith in
    let begins : IsCivilDate (pos c.year) c.month 1 = (fields.date.0, fields.date.1, (omega arith, omega arith)) in
    let past_epoch = days_from_civil-from_year first_year c.year c.month 1 begins from in
    let back = day_count-day (pos c.year) c.month c.day 1 fields.date.2.0 (omega arith) in
    record {
      from = omega (arith, signed_arith, days_from_civil-day_count, days_from_civil-first, fields.day_number);
      first_day = rw (year, of_year) (omega (arith, signed_arith, days_from_civil-day_count, days_from_civil-first, fields.day_number));
    }

-- so the days of a month are known by their numbers
pub civil_fields-of_month :
    (month first day : ℕ) → month < 120000 → IsFirstDay month first → first ≤ day → day < first + days_of_month month →
    day * seconds_a_day ≤ end_second → civil_fields (day * seconds_a_day) ≡ day_of_month month first day
civil_fields-of_month month first day known is from to h =
    let n = day * seconds_a_day in
    let day_is : n / seconds_a_day ≡ day = omega arith in
    let midnight : n % seconds_a_day ≡ 0 = omega arith in
    let first_date = IsCivilDate-first month known in
    let y = pos (month / 12) in
    let m = month % 12 + 1 in
    let d = day - first + 1 in
    let here : IsCivilOf n (day_of_month month first day) = record {
      date = (first_date.0, first_date.1, (omega arith, omega arith));
      day_number = rw day_is (omega (arith, signed_arith, days_from_civil-day_count, day_count-day y m d 1 (omega arith) (omega arith)));
      weekday = rw day_is refl;
      time = (omega arith, omega arith, omega arith);
      time_of_day = sym midnight;
    } in
    IsCivilOf-unique n (civil_fields n) (day_of_month month first day) (IsCivilOf-civil_fields n h) here
