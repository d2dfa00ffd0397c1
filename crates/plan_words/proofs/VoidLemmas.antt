-- A schedule is void exactly if no second of the supported years is on one of its days.
use Rattle.std.proofs.Common.{◌≡◌, ℕ, zero, suc, ◌+◌, ◌-◌, ◌*◌, ◌/◌, ◌%◌, ◌<◌, ◌≤◌, Bool, true, false, not, ◌&&◌, ◌||◌, refl, ap, sym, ◌∙◌, arith, inl, inr, ℤ, pos, negsuc, ◌≤ℤ◌}
use Rattle.std.specs.List.{list_any, range_with_len}
use Rattle.std.specs.Prelude.{unsigned_abs}
use Rattle.std.proofs.lemmas.Bool.{cases_lt}
use Rattle.jiff_core.specs.Calendar.{days_from_civil, weekday_number, IsCivilDate}
use Rattle.jiff_core.proofs.SignedLemmas.{signed_arith}
use Rattle.jiff_core.proofs.CalendarLemmas.{weekday_number-add, weekday_number-parts}
use Rattle.plan_sets.specs.declared.civil.Civil.{Civil}
use Rattle.plan_sets.specs.Civil.{civil_fields, length_of_month, IsCivilOf}
use Rattle.plan_sets.specs.CivilLaws.{days_from_civil-before_year, days_from_civil-end, days_from_civil-first, days_from_civil-from_year, IsCivilOf-civil_fields, IsCivilOf-unique, IsInRange-year}
use Rattle.plan_sets.specs.Limits.{end_second, first_year, last_year, seconds_a_day}
use Rattle.plan_words.specs.Tree.{Schedule}
use Rattle.plan_words.specs.Meaning.{days_have, has_day, months_have, place_from_end, some_have}
use Rattle.plan_words.specs.Existing.{date_fields, is_void, some_day, some_month, weekday_of_date}
use Rattle.plan_words.specs.Laws.{VoidMeans}

-- ---- tests on ranges

or_none : (a b : Bool) → (a || b) ≡ false → (a ≡ false) × (b ≡ false)
or_none true b is = absurd (cc)
or_none false b is = (refl, is)

not_true : (b : Bool) → not b ≡ true → b ≡ false
not_true true is = absurd (cc)
not_true false is = refl

-- no number of a range passes a test, so this one doesn't
none_passes :
    (f : ℕ → Bool) (low count v : ℕ) → list_any f (range_with_len low count) ≡ false → low ≤ v → v < low + count → f v ≡ false
none_passes f low zero v none from to = absurd (omega arith)
none_passes f low (suc count) v none from to =
    let parts = or_none (f low) (list_any f (range_with_len (low + 1) count)) none in
    elim (cases_lt low v) [
      | inl later ↦ none_passes f (low + 1) count v parts.1 (omega arith) (omega arith)
      | inr here ↦ let same : v ≡ low = omega arith in rw same parts.0
    ]

-- each number of a range fails a test, so none passes it
all_fail :
    (f : ℕ → Bool) (low count : ℕ) → ((v : ℕ) → low ≤ v → v < low + count → f v ≡ false) →
    list_any f (range_with_len low count) ≡ false
all_fail f low zero fails = refl
all_fail f low (suc count) fails =
    rw (fails low (omega arith) (omega arith), list_any)
    (all_fail f (low + 1) count (λ v from to. fails v (omega arith) (omega arith)))

-- ---- dates and seconds

weekday_of_number : (day : ℕ) → weekday_number (pos day) ≡ (day + 3) % 7
weekday_of_number day =
    let thursday : weekday_number (pos 0) ≡ 3 = weekday_number-parts (pos 0) in
    let turned : (3 + day) % 7 ≡ (day + 3) % 7 = omega arith in
    weekday_number-add (pos 0) (pos day) day (omega (arith, signed_arith)) ∙ ap (λ w. (w + day) % 7) thursday ∙ turned

-- the day of a second is a date
same_day :
    (s : Schedule) (n : ℕ) (c : Civil) → IsCivilOf n c → has_day s c ≡ has_day s (date_fields c.year c.month c.day)
same_day s n c fields =
    let weekday : c.weekday ≡ weekday_of_date c.year c.month c.day =
    fields.weekday ∙ sym (weekday_of_number (n / seconds_a_day)) ∙ sym (ap weekday_number fields.day_number) in
    ap (λ w. some_have s.years c.year && (months_have s.months c.month && days_have s.days c.day (place_from_end c) w)) weekday

natural_is : (z : ℤ) → pos 0 ≤ℤ z → z ≡ pos (unsigned_abs z)
natural_is (pos n) from = refl
natural_is (negsuc n) from = absurd (omega (arith, signed_arith))

-- a date is the day of its first second
record IsDate (y m d : ℕ) (n : ℕ) : Type 0 where
  in_years : n < end_second
  fields : civil_fields n ≡ date_fields y m d

second_of_date :
    (y m d : ℕ) → IsCivilDate (pos y) m d → first_year ≤ y → y < last_year + 1 →
    IsDate y m d (unsigned_abs (days_from_civil (pos y) m d) * seconds_a_day)
second_of_date y m d date from to =
    let number = days_from_civil (pos y) m d in
    let day = unsigned_abs number in
    let n = day * seconds_a_day in
    let is : number ≡ pos day =
    natural_is number (omega (arith, signed_arith, days_from_civil-first, days_from_civil-from_year first_year y m d date from)) in
    let before : n < end_second =
    omega (arith, signed_arith, is, days_from_civil-end, days_from_civil-before_year y m d (last_year + 1) date to) in
    let of_day : n / seconds_a_day ≡ day = omega arith in
    let midnight : 0 ≡ n % seconds_a_day = omega arith in
    let here : IsCivilOf n (date_fields y m d) = record {
      date = date;
      day_number = is ∙ sym (ap pos of_day);
      weekday = ap weekday_number is ∙ weekday_of_number day ∙ sym (ap (λ k. (k + 3) % 7) of_day);
      time = (omega arith, omega arith, omega arith);
      time_of_day = midnight;
    } in
    record {
      in_years = before;
      fields = IsCivilOf-unique n (civil_fields n) (date_fields y m d) (IsCivilOf-civil_fields n (omega arith)) here;
    }

-- ---- the law

none_on :
    (s : Schedule) → is_void s ≡ true → (n : ℕ) → n < end_second → has_day s (civil_fields n) ≡ false
unfolding some_month
none_on s void n before =
    let c = civil_fields n in
    let fields = IsCivilOf-civil_fields n (omega arith) in
    let years = IsInRange-year n c fields (omega arith) in
    let last : c.year ≤ last_year = years.1 before in
    let first : first_year ≤ c.year = years.0.0 in
    let month_low : 1 ≤ c.month = fields.date.1.0 in
    let month_high : c.month ≤ 12 = fields.date.1.1 in
    let day_low : 1 ≤ c.day = fields.date.2.0 in
    let day_high : c.day ≤ length_of_month c.year c.month = fields.date.2.1 in
    let none : some_month (some_day (has_day s)) ≡ false = not_true (some_month (some_day (has_day s))) void in
    let in_year =
    none_passes (λ y. list_any (λ m. some_day (has_day s) y m) (range_with_len 1 12)) first_year (last_year + 1 - first_year) c.year none first
    (omega arith) in
    let in_month = none_passes (λ m. some_day (has_day s) c.year m) 1 12 c.month in_year month_low (omega arith) in
    let on_day =
    none_passes (λ d. has_day s (date_fields c.year c.month d)) 1 (length_of_month c.year c.month) c.day in_month day_low (omega arith) in
    same_day s n c fields ∙ on_day

is_void_by :
    (s : Schedule) → ((n : ℕ) → n < end_second → has_day s (civil_fields n) ≡ false) → is_void s ≡ true
unfolding some_month
is_void_by s none =
    ap not
    (all_fail (λ y. list_any (λ m. some_day (has_day s) y m) (range_with_len 1 12)) first_year (last_year + 1 - first_year)
    (λ y from to.
    all_fail (λ m. some_day (has_day s) y m) 1 12
    (λ m month_from month_to.
    all_fail (λ d. has_day s (date_fields y m d)) 1 (length_of_month y m)
    (λ d day_from day_to.
    let date : IsCivilDate (pos y) m d = (
      (omega (arith, signed_arith), omega (arith, signed_arith)),
      (month_from, omega arith),
      (day_from, omega arith),
    ) in
    let is = second_of_date y m d date from (omega arith) in
    sym (ap (has_day s) is.fields) ∙ none (unsigned_abs (days_from_civil (pos y) m d) * seconds_a_day) is.in_years))))

pub void_means : VoidMeans
void_means s = (none_on s, is_void_by s)
