-- The days of a schedule are found by the kinds of years.
use Rattle.std.proofs.Common.{◌≡◌, ℕ, zero, suc, ◌+◌, ◌-◌, ◌%◌, ◌<◌, ◌≤◌, Bool, true, false, not, ◌&&◌, ◌||◌, if◌then◌else◌, nat_lt, List, [], ◌∷◌, Some, refl, ap, sym, ◌∙◌, arith, pos}
use Rattle.std.specs.List.{list_any, range_with_len}
use Rattle.std.specs.Prelude.{Option}
use Rattle.jiff_core.specs.Calendar.{days_from_civil, days_in_year, is_leap_year, weekday_number}
use Rattle.jiff_core.proofs.SignedLemmas.{signed_arith}
use Rattle.jiff_core.proofs.CalendarLemmas.{day_count-day, day_count-next_month, day_count-next_year, days_from_civil-day_count, weekday_number-add, weekday_number-parts}
use Rattle.plan_sets.specs.Civil.{length_of_month}
use Rattle.plan_sets.specs.CivilLaws.{days_from_civil-first}
use Rattle.plan_sets.specs.Limits.{first_year, last_year}
use Rattle.plan_words.specs.Tree as tree
use Rattle.plan_words.specs.Tree.{Values, Schedule}
use Rattle.plan_words.specs.Meaning.{days_have, has_day, months_have, some_have}
use Rattle.plan_words.specs.Existing.{date_fields, is_short, is_void, some_day, some_month, weekday_of_date}
use Rattle.plan_words.specs.YearKinds.{counts, has_short_month, has_year_from, has_year_of, is_month_with_day, is_year_with_day, has_some_day, month_length, some_day_from, some_month_from, some_year_from, year_has_day}

-- ---- weekdays

weekday_next : (y m d : ℕ) → 1 ≤ d → weekday_of_date y m (d + 1) ≡ (weekday_of_date y m d + 1) % 7
weekday_next y m d low =
    weekday_number-add (days_from_civil (pos y) m d) (days_from_civil (pos y) m (d + 1)) 1
    (omega (
      arith,
      signed_arith,
      days_from_civil-day_count (pos y) m d,
      days_from_civil-day_count (pos y) m (d + 1),
      day_count-day (pos y) m d (d + 1) low (omega arith),
    ))

weekday_next_month : (y m : ℕ) → 1 ≤ m → weekday_of_date y (m + 1) 1 ≡ (weekday_of_date y m 1 + length_of_month y m) % 7
weekday_next_month y m low =
    weekday_number-add (days_from_civil (pos y) m 1) (days_from_civil (pos y) (m + 1) 1) (length_of_month y m)
    (omega (
      arith,
      signed_arith,
      days_from_civil-day_count (pos y) m 1,
      days_from_civil-day_count (pos y) (m + 1) 1,
      day_count-next_month (pos y) m low,
    ))

weekday_next_year : (y : ℕ) → weekday_of_date (y + 1) 1 1 ≡ (weekday_of_date y 1 1 + days_in_year (pos y)) % 7
weekday_next_year y =
    weekday_number-add (days_from_civil (pos y) 1 1) (days_from_civil (pos (y + 1)) 1 1) (days_in_year (pos y))
    (omega (
      arith,
      signed_arith,
      days_from_civil-day_count (pos y) 1 1,
      days_from_civil-day_count (pos (y + 1)) 1 1,
      day_count-next_year (pos y) (pos (y + 1)) (omega (arith, signed_arith)) (omega (arith, signed_arith)),
    ))

-- 1970 began on a Thursday
first_weekday : weekday_of_date first_year 1 1 ≡ 3
first_weekday = ap weekday_number days_from_civil-first ∙ weekday_number-parts (pos 0)

-- ---- tests on lists

no_choice : (a b : Bool) → false ≡ (a && (b && false))
no_choice true true = refl
no_choice true false = refl
no_choice false b = refl

no_either : (a : Bool) → false ≡ (a && false)
no_either true = refl
no_either false = refl

spread_both : (a b p q : Bool) → ((a && (b && p)) || (a && (b && q))) ≡ (a && (b && (p || q)))
spread_both true true p q = refl
spread_both true false p q = refl
spread_both false b p q = refl

spread : (a p q : Bool) → ((a && p) || (a && q)) ≡ (a && (p || q))
spread true p q = refl
spread false p q = refl

pub any_same : (f g : ℕ → Bool) → ((x : ℕ) → f x ≡ g x) → (xs : List ℕ) → list_any f xs ≡ list_any g xs
any_same f g same xs = λ i. list_any (λ x. same x i) xs

any_apart : (a : Bool) (f : ℕ → Bool) (xs : List ℕ) → list_any (λ x. a && f x) xs ≡ (a && list_any f xs)
any_apart true f xs = refl
any_apart false f [] = refl
any_apart false f (x ∷ xs) = any_apart false f xs

-- the first of the numbers up to an end, and the others
pub any_step :
    (f : ℕ → Bool) (n end : ℕ) → n < end →
    list_any f (range_with_len n (end - n)) ≡ (f n || list_any f (range_with_len (n + 1) (end - (n + 1))))
any_step f n end lt =
    let one_more : end - n ≡ suc (end - (n + 1)) = omega arith in
    ap (λ count. list_any f (range_with_len n count)) one_more

-- ---- what is left of a month, a year and the years

pub some_day_step :
    (days : tree.Days) (length day weekday : ℕ) → day ≤ length →
    some_day_from days length (length + 1 - day) day weekday
    ≡ (days_have days day (length - day + 1) weekday
    || some_day_from days length (length + 1 - (day + 1)) (day + 1) ((weekday + 1) % 7))
unfolding some_day_from
some_day_step days length day weekday le =
    let one_more : length + 1 - day ≡ suc (length + 1 - (day + 1)) = omega arith in
    ap (λ count. some_day_from days length count day weekday) one_more

pub some_day_end :
    (days : tree.Days) (length day weekday : ℕ) → length < day → some_day_from days length (length + 1 - day) day weekday ≡ false
unfolding some_day_from
some_day_end days length day weekday past =
    let none : length + 1 - day ≡ 0 = omega arith in
    ap (λ count. some_day_from days length count day weekday) none

pub some_month_step :
    (s : Schedule) (leap : Bool) (month weekday : ℕ) → month ≤ 12 →
    some_month_from s leap (13 - month) month weekday
    ≡ (is_month_with_day s leap month weekday || some_month_from s leap (13 - (month + 1)) (month + 1) ((weekday + month_length leap month) % 7))
unfolding some_month_from
some_month_step s leap month weekday le =
    let one_more : 13 - month ≡ suc (13 - (month + 1)) = omega arith in
    ap (λ count. some_month_from s leap count month weekday) one_more

pub some_month_end :
    (s : Schedule) (leap : Bool) (month weekday : ℕ) → 12 < month → some_month_from s leap (13 - month) month weekday ≡ false
unfolding some_month_from
some_month_end s leap month weekday past =
    let none : 13 - month ≡ 0 = omega arith in
    ap (λ count. some_month_from s leap count month weekday) none

pub some_year_step :
    (s : Schedule) (year weekday : ℕ) → year < 3000 →
    some_year_from s (3000 - year) year weekday
    ≡ (is_year_with_day s year weekday || some_year_from s (3000 - (year + 1)) (year + 1) ((weekday + days_in_year (pos year)) % 7))
unfolding some_year_from
some_year_step s year weekday lt =
    let one_more : 3000 - year ≡ suc (3000 - (year + 1)) = omega arith in
    ap (λ count. some_year_from s count year weekday) one_more

pub some_year_end : (s : Schedule) (year weekday : ℕ) → 2999 < year → some_year_from s (3000 - year) year weekday ≡ false
unfolding some_year_from
some_year_end s year weekday past =
    let none : 3000 - year ≡ 0 = omega arith in
    ap (λ count. some_year_from s count year weekday) none

pub has_year_step :
    (years : Option Values) (common leap : Bool) (year : ℕ) → year < 3000 →
    has_year_from years common leap (3000 - year) year
    ≡ ((counts common leap year && some_have years year) || has_year_from years common leap (3000 - (year + 1)) (year + 1))
unfolding has_year_from
has_year_step years common leap year lt =
    let one_more : 3000 - year ≡ suc (3000 - (year + 1)) = omega arith in
    ap (λ count. has_year_from years common leap count year) one_more

pub has_year_end :
    (years : Option Values) (common leap : Bool) (year : ℕ) → 2999 < year → has_year_from years common leap (3000 - year) year ≡ false
unfolding has_year_from
has_year_end years common leap year past =
    let none : 3000 - year ≡ 0 = omega arith in
    ap (λ count. has_year_from years common leap count year) none

-- ---- the dates of the calendar are those that are walked

some_day_is :
    (s : Schedule) (y m count day w : ℕ) → 1 ≤ day → w ≡ weekday_of_date y m day →
    list_any (λ d. has_day s (date_fields y m d)) (range_with_len day count)
    ≡ (some_have s.years y && (months_have s.months m && some_day_from s.days (length_of_month y m) count day w))
unfolding some_day_from
some_day_is s y m zero day w low is = no_choice (some_have s.years y) (months_have s.months m)
some_day_is s y m (suc count) day w low is =
    let a = some_have s.years y in
    let b = months_have s.months m in
    let length = length_of_month y m in
    let here = days_have s.days day (length - day + 1) w in
    let next : (w + 1) % 7 ≡ weekday_of_date y m (day + 1) = ap (λ v. (v + 1) % 7) is ∙ sym (weekday_next y m day low) in
    ap (λ v. (a && (b && days_have s.days day (length - day + 1) v)) || list_any (λ d. has_day s (date_fields y m d)) (range_with_len (day + 1) count))
    (sym is)
    ∙ ap (λ x. (a && (b && here)) || x) (some_day_is s y m count (day + 1) ((w + 1) % 7) (omega arith) next)
    ∙ spread_both a b here (some_day_from s.days length count (day + 1) ((w + 1) % 7))

some_month_is :
    (s : Schedule) (y count month w : ℕ) → 1 ≤ month → w ≡ weekday_of_date y month 1 →
    list_any (λ m. some_day (has_day s) y m) (range_with_len month count)
    ≡ (some_have s.years y && some_month_from s (is_leap_year (pos y)) count month w)
unfolding some_month_from
some_month_is s y zero month w low is = no_either (some_have s.years y)
some_month_is s y (suc count) month w low is =
    let a = some_have s.years y in
    let length = length_of_month y month in
    let here = months_have s.months month && some_day_from s.days length length 1 w in
    let next : (w + length) % 7 ≡ weekday_of_date y (month + 1) 1 =
    ap (λ v. (v + length) % 7) is ∙ sym (weekday_next_month y month low) in
    ap (λ x. x || list_any (λ m. some_day (has_day s) y m) (range_with_len (month + 1) count)) (some_day_is s y month length 1 w (omega arith) is)
    ∙ ap (λ x. (a && here) || x) (some_month_is s y count (month + 1) ((w + length) % 7) (omega arith) next)
    ∙ spread a here (some_month_from s (is_leap_year (pos y)) count (month + 1) ((w + length) % 7))

some_year_is :
    (s : Schedule) (count y w : ℕ) → w ≡ weekday_of_date y 1 1 →
    list_any (λ year. list_any (λ month. some_day (has_day s) year month) (range_with_len 1 12)) (range_with_len y count)
    ≡ some_year_from s count y w
unfolding some_year_from
some_year_is s zero y w is = refl
some_year_is s (suc count) y w is =
    let rest = list_any (λ year. list_any (λ month. some_day (has_day s) year month) (range_with_len 1 12)) (range_with_len (y + 1) count) in
    let here = some_have s.years y && year_has_day s (is_leap_year (pos y)) w in
    let next : (w + days_in_year (pos y)) % 7 ≡ weekday_of_date (y + 1) 1 1 =
    ap (λ v. (v + days_in_year (pos y)) % 7) is ∙ sym (weekday_next_year y) in
    ap (λ x. x || rest) (some_month_is s y 12 1 w (omega arith) is)
    ∙ ap (λ x. here || x) (some_year_is s count (y + 1) ((w + days_in_year (pos y)) % 7) next)

pub void_is : (s : Schedule) → is_void s ≡ not (has_some_day s)
unfolding some_month
void_is s = ap not (some_year_is s (3000 - first_year) first_year 3 (sym first_weekday))

-- ---- short months

short_by :
    (months : tree.Months) (n : ℕ) (leap : Bool) →
    has_short_month months leap n ≡ (if leap then has_short_month months true n else has_short_month months false n)
short_by months n true = refl
short_by months n false = refl

and_turned : (a b : Bool) → (a && b) ≡ (b && a)
and_turned true true = refl
and_turned true false = refl
and_turned false true = refl
and_turned false false = refl

year_from_is :
    (years : Option Values) (common leap : Bool) (count year : ℕ) →
    list_any (λ y. counts common leap y && some_have years y) (range_with_len year count) ≡ has_year_from years common leap count year
unfolding has_year_from
year_from_is years common leap zero year = refl
year_from_is years common leap (suc count) year =
    ap (λ b. (counts common leap year && some_have years year) || b) (year_from_is years common leap count (year + 1))

pub short_is :
    (s : Schedule) (n : ℕ) →
    is_short s (Some n) ≡ has_year_of s.years (has_short_month s.months false n) (has_short_month s.months true n)
unfolding some_month
short_is s n =
    let common = has_short_month s.months false n in
    let leap = has_short_month s.months true n in
    any_same
    (λ year.
    list_any (λ month. some_have s.years year && (months_have s.months month && nat_lt (length_of_month year month) n)) (range_with_len 1 12))
    (λ year. counts common leap year && some_have s.years year)
    (λ year.
    any_apart (some_have s.years year) (λ month. months_have s.months month && nat_lt (length_of_month year month) n) (range_with_len 1 12)
    ∙ ap (λ short. some_have s.years year && short) (short_by s.months n (is_leap_year (pos year)))
    ∙ and_turned (some_have s.years year) (counts common leap year))
    (range_with_len first_year (last_year + 1 - first_year))
    ∙ year_from_is s.years common leap (last_year + 1 - first_year) first_year

none_from : (years : Option Values) (count year : ℕ) → has_year_from years false false count year ≡ false
unfolding has_year_from
none_from years zero year = refl
none_from years (suc count) year = rw (none (is_leap_year (pos year)) (some_have years year)) (none_from years count (year + 1))
  where
    none : (leap have : Bool) → ((if leap then false else false) && have) ≡ false
    none true have = refl
    none false have = refl

pub none_counts : (years : Option Values) (common leap : Bool) → (common || leap) ≡ false → has_year_of years common leap ≡ false
none_counts years true leap is = absurd (cc)
none_counts years false true is = absurd (cc)
none_counts years false false is = none_from years (last_year + 1 - first_year) first_year
