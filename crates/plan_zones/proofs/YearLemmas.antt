-- The year of a second, and the seconds at which years start.
use Rattle.std.proofs.Common.{◌≡◌, ℕ, ◌+◌, ◌*◌, ◌/◌, ◌≤◌, ◌<◌, pos, sym, ap, ◌∙◌, arith, inl, inr}
use Rattle.std.proofs.lemmas.Bool.Decides.{leb_tells}
use Rattle.std.specs.Int.{int_div_euclid}
use Rattle.jiff_core.specs.Calendar.{day_count, days_in_year, days_from_civil}
use Rattle.jiff_core.specs.Timestamp.{nanos_of_seconds}
use Rattle.jiff_core.specs.declared.civil.date.Date.{Date}
use Rattle.jiff_core.proofs.SignedLemmas.{signed_arith}
use Rattle.jiff_core.proofs.CalendarLemmas.{day_count-epoch, day_count-next_year, day_count-later_year, day_count-year_is, days_from_civil-day_count}
use Rattle.jiff_tz.specs.Year.{year_of_day}
use Rattle.jiff_tz.proofs.YearLemmas.{year_of_day-date}
use Rattle.plan_zones.specs.Changes.{year_at, year_start}
use Rattle.plan_sets.specs.Civil.{civil_fields}
use Rattle.plan_sets.specs.CivilLaws.{days_from_civil-end, IsCivilOf-civil_fields}
use Rattle.plan_sets.specs.Limits.{end_second, first_year, last_year, seconds_a_day}

-- the day of a second
day_of_nanos : (n : ℕ) → int_div_euclid (nanos_of_seconds (pos n)) (pos 86_400_000_000_000) ≡ pos (n / seconds_a_day)
day_of_nanos n = omega (arith, signed_arith)

-- a year from 1970 on has at least as many days before it as 1970
days_begin : (year : ℕ) → first_year ≤ year → 4_371_953 ≤ day_count (pos year) 1 1
days_begin year low = elim (leb_tells year first_year) [
  | inl at_first ↦
      let same : year ≡ first_year = omega arith in
      rw same (omega (arith, day_count-epoch))
  | inr later ↦
      let more = day_count-later_year (pos first_year) (pos year) (omega (arith, signed_arith)) (omega (arith, signed_arith)) in
      omega (arith, day_count-epoch)
]

-- the first year starts at second 0, and each later year at the end of the one before it
pub year_start-first : year_start first_year ≡ 0
year_start-first = omega (arith, day_count-epoch)

pub year_start-next : (year : ℕ) → first_year ≤ year → year_start (year + 1) ≡ year_start year + days_in_year (pos year) * seconds_a_day
year_start-next year low =
    let next = day_count-next_year (pos year) (pos (year + 1)) (omega (arith, signed_arith)) (omega (arith, signed_arith)) in
    let begin = days_begin year low in
    omega arith

pub year_start-end : year_start (last_year + 1) ≡ end_second
year_start-end =
    let end = days_from_civil-end in
    let count = days_from_civil-day_count (pos (last_year + 1)) 1 1 in
    omega (arith, signed_arith)

-- the year of a second between the starts of that year and of the next
pub year_at-is :
    (year n : ℕ) → first_year ≤ year → year ≤ last_year → n < end_second → year_start year ≤ n → n < year_start (year + 1) →
    year_at n ≡ pos year
year_at-is year n low high in_years from upto =
    let f = civil_fields n in
    let civil = IsCivilOf-civil_fields n (omega arith) in
    let date : Date = record {
      year = pos f.year;
      month = f.month;
      day = f.day;
      year_in = civil.date.0;
      month_in = civil.date.1;
      day_in = civil.date.2;
    } in
    let of_date : year_of_day (days_from_civil (pos f.year) f.month f.day) ≡ pos f.year = year_of_day-date date in
    let next = year_start-next year low in
    let begin = days_begin year low in
    let count = days_from_civil-day_count (pos f.year) f.month f.day in
    let number = civil.day_number in
    let same : pos f.year ≡ pos year = day_count-year_is (pos year) (pos f.year) f.month f.day
    (omega (arith, signed_arith), omega (arith, signed_arith)) civil.date (omega (arith, signed_arith))
    (omega (arith, signed_arith)) in
    ap year_of_day (day_of_nanos n ∙ sym number) ∙ of_date ∙ same

-- the supported years end with the last of them
pub year_start-within :
    (year : ℕ) → first_year ≤ year → year ≤ last_year → year_start year + days_in_year (pos year) * seconds_a_day ≤ end_second
year_start-within year low high =
    let more = day_count-later_year (pos year) (pos (last_year + 1)) (omega (arith, signed_arith)) (omega (arith, signed_arith)) in
    let begin = days_begin year low in
    let end = year_start-end in
    omega arith
