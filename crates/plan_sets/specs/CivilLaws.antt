-- Laws of civil fields: the computed fields are those of the second, and the only ones; and which fields two seconds share.
use Rattle.std.proofs.Common.{◌≡◌, ℕ, zero, suc, ◌+◌, ◌-◌, ◌/◌, ◌%◌, ◌<◌, ◌≤◌, Bool, true, false, nat_lt, ltb, inl, inr, refl, sym, ◌∙◌, arith, rules, ℤ, pos, ◌<ℤ◌, ◌≤ℤ◌}
use Rattle.std.specs.Int.{IsInRange}
use Rattle.std.proofs.lemmas.Bool.{cases_lt}
use Rattle.std.proofs.lemmas.Bool.Decides.{Decides-ltb, not_from_Decides}
use Rattle.jiff_core.specs.Calendar.{day_count, day_of_year, days_from_civil, days_in_month, days_in_year, days_of_months, IsCivilDate}
use Rattle.jiff_core.specs.declared.civil.date.Date.{Date}
use Rattle.jiff_core.proofs.SignedLemmas.{signed_arith}
use Rattle.jiff_core.proofs.MarchLemmas.{day_count-early}
use Rattle.jiff_core.proofs.CalendarLemmas.{day_count-day_of_year, day_count-epoch, day_count-later_year, day_count-lt_year, day_count-next_year, days_from_civil-day_count, days_in_year_bounds, days_of_months-zero, days_of_months_all, days_of_months_more}
use Rattle.jiff_core.proofs.DateLemmas.{epoch_day_injective}
use Rattle.plan_sets.specs.declared.civil.Civil.{Civil}
use Rattle.plan_sets.specs.Limits.{end_second, first_year, last_year, seconds_a_day}
use Rattle.plan_sets.specs.Civil.{civil_fields, month_and_day, second_number, seconds_of_day, year_and_day, IsCivilOf, IsDateTime, IsTime, SameDate, Shows}

-- a year and a day in it are those of the day that is `day` days after 1 January of `year`
record IsInYear (year day : ℕ) (found : ℕ × ℕ) : Type 0 where
  from : year ≤ found.0
  within : found.1 < days_in_year (pos found.0)
  count : day_count (pos found.0) 1 1 + found.1 ≡ day_count (pos year) 1 1 + day

day_count-suc_year : (year : ℕ) → day_count (pos (suc year)) 1 1 ≡ day_count (pos year) 1 1 + days_in_year (pos year)
day_count-suc_year year = day_count-next_year (pos year) (pos (suc year)) (omega (arith, signed_arith)) (omega (arith, signed_arith))

IsInYear-later :
    (year day : ℕ) (found : ℕ × ℕ) → days_in_year (pos year) ≤ day → IsInYear (suc year) (day - days_in_year (pos year)) found →
    IsInYear year day found
IsInYear-later year day found le later = record {
  from = omega arith;
  within = later.within;
  count = omega (arith, day_count-suc_year year);
}

-- a year has at least one day, so `day` years are enough
year_and_day-is : (most year day : ℕ) → day ≤ most → IsInYear year day (year_and_day most year day)
unfolding year_and_day
year_and_day-is zero year day h = record {
  from = omega arith;
  within = omega (arith, days_in_year_bounds (pos year));
  count = refl;
}
year_and_day-is (suc most) year day h =
    let len = days_in_year (pos year) in
    let step : (b : Bool) → nat_lt day len ≡ b → IsInYear year day
    (elim b [ true ↦ (year, day) | false ↦ year_and_day most (suc year) (day - len) ]) = λ b. elim b as
    (λ v. nat_lt day len ≡ v → IsInYear year day (elim v [ true ↦ (year, day) | false ↦ year_and_day most (suc year) (day - len) ])) [
      | true ↦ λ e. record { from = omega arith; within = (Decides-ltb day len).0 e; count = refl }
      | false ↦ λ e. let le : len ≤ day = omega (arith, not_from_Decides (ltb day len) (Decides-ltb day len) e) in
          IsInYear-later year day _ le (year_and_day-is most (suc year) (day - len) (omega (arith, days_in_year_bounds (pos year))))
    ] in
    step (nat_lt day len) refl

-- a month and a day in it are those of day `day` of the year, counted from 0
record IsInMonth (year : ℤ) (day : ℕ) (found : ℕ × ℕ) : Type 0 where
  month_in : IsInRange 1 12 found.0
  day_in : IsInRange 1 (days_in_month year found.0) found.1
  count : day_of_year year found.0 found.1 ≡ day + 1

month_and_day-is :
    (most : ℕ) (year : ℤ) (month day before whole : ℕ) → 1 ≤ month → month + most ≡ 12 → before ≡ days_of_months year (month - 1) →
    before + day ≡ whole → whole < days_in_year year → IsInMonth year whole (month_and_day most year month day)
unfolding month_and_day
month_and_day-is zero year month day before whole low sum start place within =
    let last : month ≡ 12 = omega arith in
    let len = days_of_months_more year month low in
    let all : days_of_months year month ≡ days_in_year year = rw last (days_of_months_all year) in
    record { month_in = omega arith; day_in = omega arith; count = omega arith }
month_and_day-is (suc most) year month day before whole low sum start place within =
    let len = days_in_month year month in
    let more = days_of_months_more year month low in
    let back : suc month - 1 ≡ month = omega arith in
    let step : (b : Bool) → nat_lt day len ≡ b → IsInMonth year whole
    (elim b [ true ↦ (month, day + 1) | false ↦ month_and_day most year (suc month) (day - len) ]) = λ b. elim b as
    (λ v. nat_lt day len ≡ v → IsInMonth year whole
    (elim v [ true ↦ (month, day + 1) | false ↦ month_and_day most year (suc month) (day - len) ])) [
      | true ↦ λ e. let lt = (Decides-ltb day len).0 e in record { month_in = omega arith; day_in = omega arith; count = omega arith }
      | false ↦ λ e. let le : len ≤ day = omega (arith, not_from_Decides (ltb day len) (Decides-ltb day len) e) in
          month_and_day-is most year (suc month) (day - len) (days_of_months year month) whole (omega arith) (omega arith)
          (rw back refl) (omega arith) within
    ] in
    step (nat_lt day len) refl

-- a date before a year has a smaller day number than the year's first day
pub days_from_civil-before_year :
    (year month day later : ℕ) → IsCivilDate (pos year) month day → year < later →
    days_from_civil (pos year) month day <ℤ days_from_civil (pos later) 1 1
days_from_civil-before_year year month day later date lt =
    omega (
      arith,
      signed_arith,
      days_from_civil-day_count,
      day_count-lt_year (pos year) month day (pos later) 1 1 date (omega arith)
          (omega (arith, signed_arith)),
    )

first_of_later_year : (first year : ℕ) → first ≤ year → day_count (pos first) 1 1 ≤ day_count (pos year) 1 1
first_of_later_year first year le =
    elim (cases_lt first year) [
      | inl lt ↦ omega (arith, day_count-later_year (pos first) (pos year) (omega (arith, signed_arith)) (omega (arith, signed_arith)))
      | inr ge ↦ let same : first ≡ year = omega arith in rw same (omega arith)
    ]

-- a date of the year or of a later one has at least the day number of the year's first day
pub days_from_civil-from_year :
    (first year month day : ℕ) → IsCivilDate (pos year) month day → first ≤ year →
    days_from_civil (pos first) 1 1 ≤ℤ days_from_civil (pos year) month day
days_from_civil-from_year first year month day date le =
    omega (
      arith,
      signed_arith,
      days_from_civil-day_count,
      first_of_later_year first year le,
      day_count-day_of_year
          (pos year) month day date.2.0,
    )

-- the first second and the end are the starts of years
pub days_from_civil-first : days_from_civil (pos first_year) 1 1 ≡ pos 0
days_from_civil-first = omega (arith, signed_arith, days_from_civil-day_count, day_count-epoch)

pub days_from_civil-end : days_from_civil (pos (last_year + 1)) 1 1 ≡ pos (end_second / seconds_a_day)
days_from_civil-end =
    let count = day_count-early (pos (last_year + 1)) (last_year + 10000) 1 1 refl (omega arith) (omega arith) (omega arith) in
    omega (arith, signed_arith, days_from_civil-day_count)

-- the days of all seconds before the end are in the supported years; the day of the end is in the next year
days_before_end : (n : ℕ) → n ≤ end_second → n / seconds_a_day ≤ end_second / seconds_a_day
days_before_end n h = omega arith

IsInYear-le_end : (n : ℕ) (found : ℕ × ℕ) → n ≤ end_second → IsInYear first_year (n / seconds_a_day) found → found.0 ≤ last_year + 1
IsInYear-le_end n found h in_year =
    elim (cases_lt (last_year + 1) found.0) [
      | inl lt ↦
          let later = day_count-later_year (pos (last_year + 1)) (pos found.0) (omega (arith, signed_arith))
          (omega (arith, signed_arith)) in
          let longer = days_in_year_bounds (pos (last_year + 1)) in
          absurd (omega (
            arith,
            signed_arith,
            days_from_civil-day_count,
            days_from_civil-end,
            days_from_civil-first,
            days_before_end
                n h,
            in_year.count,
          ))
      | inr le ↦ le
    ]

-- the computed fields are those of the calendar
pub IsCivilOf-civil_fields : (n : ℕ) → n ≤ end_second → IsCivilOf n (civil_fields n)
unfolding civil_fields
IsCivilOf-civil_fields n h =
    let days = n / seconds_a_day in
    let found = year_and_day days first_year days in
    let in_year : IsInYear first_year days found = year_and_day-is days first_year days (omega arith) in
    let zeroth = days_of_months-zero (pos found.0) in
    let placed = month_and_day 11 (pos found.0) 1 found.1 in
    let in_month : IsInMonth (pos found.0) found.1 placed = month_and_day-is 11 (pos found.0) 1 found.1 0 found.1 (omega arith)
    (omega arith) (sym zeroth) (omega arith) in_year.within in
    let known = IsInYear-le_end n found h in_year in
    record {
      date = ((omega (arith, signed_arith), omega (arith, signed_arith)), in_month.month_in, in_month.day_in);
      day_number = omega (
        arith,
        signed_arith,
        days_from_civil-day_count,
        days_from_civil-first,
        day_count-day_of_year
            (pos found.0) placed.0 placed.1 in_month.day_in.0,
        in_month.count,
        in_year.count,
      );
      weekday = refl;
      time = omega arith;
      time_of_day = omega arith;
    }

as_date : (year month day : ℕ) → IsCivilDate (pos year) month day → Date
as_date year month day date = record {
  year = pos year;
  month = month;
  day = day;
  year_in = date.0;
  month_in = date.1;
  day_in = date.2;
}

-- two dates with the same day number are the same date
pub same_date :
    (y m d y₂ m₂ d₂ : ℕ) → IsCivilDate (pos y) m d → IsCivilDate (pos y₂) m₂ d₂ →
    days_from_civil (pos y) m d ≡ days_from_civil (pos y₂) m₂ d₂ → (y ≡ y₂) × (m ≡ m₂) × (d ≡ d₂)
unfolding as_date
same_date y m d y₂ m₂ d₂ date date₂ e =
    let same = epoch_day_injective (as_date y m d date) (as_date y₂ m₂ d₂ date₂) e in
    (omega (arith, signed_arith, same.0), same.1, same.2)

-- only one value has the fields of a second
pub IsCivilOf-unique : (n : ℕ) (a b : Civil) → IsCivilOf n a → IsCivilOf n b → a ≡ b
IsCivilOf-unique n a b p q =
    let date = same_date _ _ _ _ _ _ p.date q.date (p.day_number ∙ sym q.day_number) in
    let weekday : a.weekday ≡ b.weekday = p.weekday ∙ sym q.weekday in
    let hour : a.hour ≡ b.hour = omega arith in
    let minute : a.minute ≡ b.minute = omega arith in
    let second : a.second ≡ b.second = omega arith in
    let same : ◌≡◌ {A = Civil} (record
    { year = a.year; month = a.month; day = a.day; weekday = a.weekday; hour = a.hour; minute = a.minute; second = a.second })
    b = rw (date.0, date.1, date.2, weekday, hour, minute, second) refl in
    same

-- each second before the end is in the supported years
pub IsInRange-year :
    (n : ℕ) (c : Civil) → IsCivilOf n c → n ≤ end_second →
    IsInRange first_year (last_year + 1) c.year × (n < end_second → c.year ≤ last_year)
IsInRange-year n c h le =
    let low : first_year ≤ c.year = elim (cases_lt c.year first_year) [
      | inl lt ↦ absurd (omega (
        arith,
        signed_arith,
        h.day_number,
        days_from_civil-first,
        days_from_civil-before_year c.year c.month
            c.day first_year h.date lt,
      ))
      | inr ge ↦ ge
    ] in
    let high : c.year ≤ last_year + 1 = elim (cases_lt (last_year + 1) c.year) [
      | inl lt ↦
          let end : IsCivilDate (pos (last_year + 1)) 1 1 = search rules in
          let before = days_from_civil-before_year (last_year + 1) 1 1 c.year end lt in
          let from = days_from_civil-from_year c.year c.year c.month c.day h.date (omega arith) in
          absurd (omega (arith, signed_arith, h.day_number, days_from_civil-end, days_before_end n le))
      | inr ge ↦ ge
    ] in
    let before_end : n < end_second → c.year ≤ last_year = λ lt. elim (cases_lt last_year c.year) [
      | inl late ↦ absurd (omega (
        arith,
        signed_arith,
        h.day_number,
        days_from_civil-end,
        days_from_civil-from_year
            (last_year + 1) c.year c.month c.day h.date (omega arith),
      ))
      | inr ge ↦ ge
    ] in
    ((low, high), before_end)

-- the number of a second follows from its fields
pub second_number-civil : (n : ℕ) (c : Civil) → IsCivilOf n c → second_number c.year c.month c.day c.hour c.minute c.second ≡ pos n
second_number-civil n c h = rw h.day_number (omega (arith, signed_arith, h.time_of_day))

-- if second n has the number of a date and time, its fields are those of that date and time
pub Shows-civil_fields :
    (n year month day hour minute second : ℕ) → n ≤ end_second → IsDateTime year month day hour minute second →
    pos n ≡ second_number year month day hour minute second → Shows (civil_fields n) year month day hour minute second
Shows-civil_fields n year month day hour minute second h is e =
    let c = IsCivilOf-civil_fields n h in
    let days : days_from_civil (pos year) month day ≡ pos (n / seconds_a_day) = omega (arith, signed_arith) in
    let date = same_date _ _ _ _ _ _ c.date is.0 (c.day_number ∙ sym days) in
    let time : seconds_of_day hour minute second ≡ n % seconds_a_day = omega (arith, signed_arith) in
    (date.0, date.1, date.2, omega arith, omega arith, omega arith)

-- two seconds of the same day have the same date
pub SameDate-day : (n m : ℕ) → n / seconds_a_day ≡ m / seconds_a_day → SameDate (civil_fields n) (civil_fields m)
unfolding civil_fields
SameDate-day n m same = record {
  year = rw same refl;
  month = rw same refl;
  day = rw same refl;
  weekday = rw same refl;
}

-- the time of day is the second of the day, in hours, minutes and seconds
pub IsTime-civil_fields : (n : ℕ) → IsTime n (civil_fields n)
unfolding civil_fields
IsTime-civil_fields n = record { hour = refl; minute = refl; second = refl }
