-- What jiff returns are the civil fields, and their numbers fit where they are cast.
-- For `date_of_day`, `day_number`, `fields_of`, `second_of`, and the cast of `read_moment`. The day numbers of the first and the
-- last year bound those in between, and a cast keeps a number that fits (`to_z-of_z`).
use Rattle.std.proofs.Common.{◌≡◌, ℕ, ◌+◌, ◌/◌, ◌%◌, ◌≤◌, refl, arith, FitsSigned, of_z, to_z, w64, ℤ, pos, ◌<ℤ◌, ◌≤ℤ◌, unsigned_abs}
use Rattle.std.proofs.lemmas.Bool.Decides.{nat_tests}
use Rattle.std.proofs.lemmas.Int.{by_lt_z}
use Rattle.jiff_core.specs.Calendar.{IsCivilDate}
use Rattle.jiff_core.specs.Date.{epoch_day, IsYmd}
use Rattle.jiff_core.specs.declared.civil.date.Date.{Date}
use Rattle.jiff_core.proofs.SignedLemmas.{signed_arith}
use Rattle.jiff_core.proofs.CalendarLemmas.{day_count_bounds, day_count-lt_year, days_from_civil-day_count}
use Rattle.plan_sets.specs.Limits.{end_second, first_year, last_year, seconds_a_day}
use Rattle.plan_sets.specs.Civil.{second_number, IsCivilOf, IsDateTime, IsDateTimeInYears}
use Rattle.plan_sets.specs.CivilLaws.{days_from_civil-before_year, days_from_civil-end, days_from_civil-first, days_from_civil-from_year}

-- a date and time in the supported years has the number of a second before the end
pub second_number-bounds :
    (year month day hour minute second : ℕ) → IsDateTimeInYears year month day hour minute second →
    (pos 0 ≤ℤ second_number year month day hour minute second) × (second_number year month day hour minute second <ℤ pos end_second)
second_number-bounds year month day hour minute second h =
    let low = days_from_civil-from_year first_year year month day h.1.0 h.0.0 in
    let high = days_from_civil-before_year year month day (last_year + 1) h.1.0 (omega arith) in
    omega (arith, signed_arith, days_from_civil-first, days_from_civil-end)

-- 1970-01-01 has the day number 0
pub epoch_day-epoch : (d : Date) → IsYmd (pos 1970) (pos 1) (pos 1) d → epoch_day d ≡ pos 0
epoch_day-epoch d (year, month, day) =
    let first : d.month ≡ 1 = omega (arith, signed_arith) in
    let one : d.day ≡ 1 = omega (arith, signed_arith) in
    rw (year, first, one) days_from_civil-first

-- a date from the epoch on has no negative year
pub year-from_epoch : (d : Date) (n : ℕ) → epoch_day d ≡ pos n → pos 0 ≤ℤ d.year
year-from_epoch d n e =
    by_lt_z d.year (pos first_year)
    (λ lt. absurd (omega (
      arith,
      signed_arith,
      days_from_civil-day_count,
      days_from_civil-first,
      day_count-lt_year d.year d.month
          d.day (pos first_year) 1 1 (d.year_in, d.month_in, d.day_in) (omega arith) lt,
    )))
    (λ le. omega (arith, signed_arith))

pos-unsigned_abs : (z : ℤ) → pos 0 ≤ℤ z → pos (unsigned_abs z) ≡ z
pos-unsigned_abs z given = grind (arith, nat_tests)

-- a cast from a signed number from 0 to the end keeps the number
pub record IsCast (z : ℤ) (n : ℕ) : Type 0 where
  pub back : to_z w64 (of_z w64 z) ≡ z
  pub same : pos n ≡ z
  pub fits : n ≤ end_second

pub IsCast-second : (z : ℤ) → pos 0 ≤ℤ z → z ≤ℤ pos end_second → IsCast z (unsigned_abs (to_z w64 (of_z w64 z)))
IsCast-second z low high = grind (arith, nat_tests)

-- the date with a second's day number gives its fields
pub IsCivilOf-date :
    (n : ℕ) (d : Date) → epoch_day d ≡ pos (n / seconds_a_day) →
    IsCivilOf n (record {
      year = unsigned_abs d.year;
      month = d.month;
      day = d.day;
      weekday = (n / seconds_a_day + 3) % 7;
      hour =
          n % seconds_a_day / 3600;
      minute = n % seconds_a_day / 60 % 60;
      second = n % seconds_a_day % 60;
    })
IsCivilOf-date n d e =
    let low = year-from_epoch d (n / seconds_a_day) e in
    let year = pos-unsigned_abs d.year low in
    record {
      date = rw year (d.year_in, d.month_in, d.day_in);
      day_number = rw year e;
      weekday = refl;
      time = omega arith;
      time_of_day = omega arith;
    }

-- the year, month and day of a date are in the calendar
pub IsCivilDate-date : (date : Date) (year month day : ℕ) → IsYmd (pos year) (pos month) (pos day) date → IsCivilDate (pos year) month day
IsCivilDate-date date year month day given = grind (arith, nat_tests)

-- the number of any date and time fits 64 bits
pub second_number-fits :
    (year month day hour minute second : ℕ) → IsDateTime year month day hour minute second →
    FitsSigned w64 (second_number year month day hour minute second)
second_number-fits year month day hour minute second is =
    omega (arith, signed_arith, days_from_civil-day_count, day_count_bounds (pos year) month day is.0)
