-- What is said of days, months and years has just these.
use Rattle.std.proofs.Common.{◌≡◌, ℕ, zero, suc, ◌+◌, ◌-◌, ◌/◌, ◌%◌, ◌<◌, ◌≤◌, Bool, true, false, ◌&&◌, ◌||◌, ◌==◌, nat_le, nat_lt, if◌then◌else◌, List, [], ◌∷◌, map, length, Option, Some, None, refl, ap, sym, ◌∙◌, arith, inl, inr, cond}
use mathlib.Core.List.{reverse_aux}
use Rattle.std.specs.List.{list_all, list_any, range_with_len}
use Rattle.std.proofs.lemmas.Bool.{and_parts, cases_lt, or_cases}
use Rattle.std.proofs.lemmas.Bool.Decides.{nat_tests}
use Rattle.plan_sets.specs.Limits.{first_year, last_year}
use Rattle.plan_words.specs.declared.names.Weekday.{Weekday}
use Rattle.plan_words.specs.declared.tree.Span.{Span}
use Rattle.plan_words.specs.Tree.{Values, Steps, Items, FromEnd, LastDays, WeekRun, AnyDay, OnWeekdays, OnDates, OnNth, OnBoth, OnEither, AllMonths, MonthRun}
use Rattle.plan_words.specs.Meaning.{dates_have, days_have, month_number, months_have, places_have, some_have, span_has, values_have, week_has, weekday_number}
use Rattle.plan_describe.specs.Numbers.{has_number, is_run, is_spaced, is_whole, last_of, members, runs, runs_after, single, values_said, with_number}
use Rattle.plan_describe.specs.DaysSaid.{both_by, both_said, dates_said, days_said, either_said, is_day, month_list, month_of, months_said, nth_week, places_said, turned, turned_span, week_by, week_round, week_run, week_said, weekday_of, year_count, years_said}
use Rattle.plan_describe.proofs.NumbersLemmas.{AreBelow, equal_test, members_have, ones, or_none, runs_have_all, steps_have_all, values_said_have, whole_has}

-- ---- weekdays

-- what holds of each weekday
each_weekday : (P : ℕ → Type 0) → P 0 → P 1 → P 2 → P 3 → P 4 → P 5 → P 6 → (w : ℕ) → w < 7 → P w
each_weekday P a b c d e f g zero below = a
each_weekday P a b c d e f g (suc zero) below = b
each_weekday P a b c d e f g (suc (suc zero)) below = c
each_weekday P a b c d e f g (suc (suc (suc zero))) below = d
each_weekday P a b c d e f g (suc (suc (suc (suc zero)))) below = e
each_weekday P a b c d e f g (suc (suc (suc (suc (suc zero))))) below = f
each_weekday P a b c d e f g (suc (suc (suc (suc (suc (suc zero)))))) below = g
each_weekday P a b c d e f g (suc (suc (suc (suc (suc (suc (suc n))))))) below = absurd (omega arith)

weekday_is : (w : ℕ) → w < 7 → weekday_number (weekday_of w) ≡ w
weekday_is w below = each_weekday (λ w. weekday_number (weekday_of w) ≡ w) refl refl refl refl refl refl refl w below

week_list_has : (ws : List ℕ) (w : ℕ) → AreBelow 7 ws → list_any (λ d. weekday_number d == w) (map weekday_of ws) ≡ has_number ws w
week_list_has [] w below = refl
week_list_has (v ∷ vs) w below =
    let here = ap (λ x. x == w) (weekday_is v below.0) in
    let more = week_list_has vs w below.1 in
    λ i. here i || more i

-- the ends of spans are below a limit
abbrev AreSpansBelow : ℕ → List Span → Type 0
AreSpansBelow limit [] = Unit {0}
AreSpansBelow limit (s ∷ more) = (s.first < limit) × (s.last < limit) × AreSpansBelow limit more

with_below : (limit v : ℕ) (spans : List Span) → v < limit → AreSpansBelow limit spans → AreSpansBelow limit (with_number spans v)
with_below limit v [] below fine = (below, below, tt)
with_below limit v (s ∷ []) below fine = go (s.last + 1 == v)
  where
    go : (b : Bool) → AreSpansBelow limit (if b then record { first = s.first; last = v } ∷ [] else s ∷ single v ∷ [])
    go true = (fine.0, below, tt)
    go false = (fine.0, fine.1, (below, below, tt))
with_below limit v (s ∷ t ∷ more) below fine = (fine.0, fine.1, with_below limit v (t ∷ more) below fine.2)

runs_below : (limit : ℕ) (known : List Span) (vs : List ℕ) → AreSpansBelow limit known → AreBelow limit vs → AreSpansBelow limit (runs_after known vs)
runs_below limit known [] fine below = fine
runs_below limit known (v ∷ vs) fine below = runs_below limit (with_number known v) vs (with_below limit v known below.0 fine) below.1

week_has_is :
    (x y w : ℕ) → x < 7 → y < 7 → week_has (WeekRun (weekday_of x) (weekday_of y)) w ≡ nat_le ((w + 7 - x) % 7) ((y + 7 - x) % 7)
week_has_is x y w x_below y_below =
    ap (λ a. nat_le ((w + 7 - a) % 7) ((weekday_number (weekday_of y) + 7 - a) % 7)) (weekday_is x x_below)
    ∙ ap (λ b. nat_le ((w + 7 - x) % 7) ((b + 7 - x) % 7)) (weekday_is y y_below)

straight : (x y w : ℕ) → x ≤ y → y < 7 → w < 7 → nat_le ((w + 7 - x) % 7) ((y + 7 - x) % 7) ≡ (nat_le x w && nat_le w y)
straight x y w order y_below w_below =
    let ends : (y + 7 - x) % 7 ≡ y - x = omega arith in
    elim (cases_lt w x) as (λ _. nat_le ((w + 7 - x) % 7) ((y + 7 - x) % 7) ≡ (nat_le x w && nat_le w y)) [
      | inl before ↦
          let gap : (w + 7 - x) % 7 ≡ w + 7 - x = omega arith in out ((w + 7 - x) % 7) ((y + 7 - x) % 7) x y w gap ends before order y_below
      | inr from ↦ let gap : (w + 7 - x) % 7 ≡ w - x = omega arith in in_order ((w + 7 - x) % 7) ((y + 7 - x) % 7) x y w gap ends from order
    ]
  where
    out : (m n x y w : ℕ) → m ≡ w + 7 - x → n ≡ y - x → w < x → x ≤ y → y < 7 → nat_le m n ≡ (nat_le x w && nat_le w y)
    out m n x y w m_is n_is before order below = grind (arith, nat_tests)

    in_order : (m n x y w : ℕ) → m ≡ w - x → n ≡ y - x → x ≤ w → x ≤ y → nat_le m n ≡ (nat_le x w && nat_le w y)
    in_order m n x y w m_is n_is from order = grind (arith, nat_tests)

round : (p x y q w : ℕ) → p ≡ 0 → q ≡ 6 → y < x → x < 7 → w < 7 →
    nat_le ((w + 7 - x) % 7) ((y + 7 - x) % 7) ≡ ((nat_le p w && nat_le w y) || ((nat_le x w && nat_le w q) || false))
round p x y q w p_is q_is order x_below w_below =
    let ends : (y + 7 - x) % 7 ≡ y + 7 - x = omega arith in
    elim (cases_lt w x) as (λ _. nat_le ((w + 7 - x) % 7) ((y + 7 - x) % 7) ≡ ((nat_le p w && nat_le w y) || ((nat_le x w && nat_le w q) || false))) [
      | inl before ↦
          let gap : (w + 7 - x) % 7 ≡ w + 7 - x = omega arith in low ((w + 7 - x) % 7) ((y + 7 - x) % 7) p x y q w gap ends before order p_is x_below
      | inr from ↦
          let gap : (w + 7 - x) % 7 ≡ w - x = omega arith in high ((w + 7 - x) % 7) ((y + 7 - x) % 7) p x y q w gap ends from order q_is x_below w_below
    ]
  where
    low :
        (m n p x y q w : ℕ) → m ≡ w + 7 - x → n ≡ y + 7 - x → w < x → y < x → p ≡ 0 → x < 7 →
        nat_le m n ≡ ((nat_le p w && nat_le w y) || ((nat_le x w && nat_le w q) || false))
    low m n p x y q w m_is n_is before order p_is x_below = grind (arith, nat_tests)

    high :
        (m n p x y q w : ℕ) → m ≡ w - x → n ≡ y + 7 - x → x ≤ w → y < x → q ≡ 6 → x < 7 → w < 7 →
        nat_le m n ≡ ((nat_le p w && nat_le w y) || ((nat_le x w && nat_le w q) || false))
    high m n p x y q w m_is n_is from order q_is x_below w_below = grind (arith, nat_tests)

le_test : (a b : ℕ) → nat_le a b ≡ true → a ≤ b
le_test a b is = grind (arith, nat_tests)

lt_test : (a b : ℕ) → nat_lt a b ≡ true → a < b
lt_test a b is = grind (arith, nat_tests)

week_round_has :
    (start end run : Span) (w : ℕ) → w < 7 → AreSpansBelow 7 (start ∷ end ∷ []) → week_round start end ≡ Some run →
    week_has (WeekRun (weekday_of run.first) (weekday_of run.last)) w ≡ list_any (span_has w) (start ∷ end ∷ [])
week_round_has start end run w w_below fine is =
    go ((start.first == 0) && ((end.last == 6) && (nat_lt start.last end.first && nat_le end.first (start.last + 5)))) refl is
  where
    go :
        (b : Bool) → ((start.first == 0) && ((end.last == 6) && (nat_lt start.last end.first && nat_le end.first (start.last + 5)))) ≡ b →
        (if b then Some (record { first = end.first; last = start.last }) else None) ≡ Some run →
        week_has (WeekRun (weekday_of run.first) (weekday_of run.last)) w ≡ list_any (span_has w) (start ∷ end ∷ [])
    go true tests is =
        let a = and_parts (start.first == 0) ((end.last == 6) && (nat_lt start.last end.first && nat_le end.first (start.last + 5))) tests in
        let b = and_parts (end.last == 6) (nat_lt start.last end.first && nat_le end.first (start.last + 5)) a.1 in
        let c = and_parts (nat_lt start.last end.first) (nat_le end.first (start.last + 5)) b.1 in
        let first_is : end.first ≡ run.first = cc in
        let last_is : start.last ≡ run.last = cc in
        ap (λ x. week_has (WeekRun (weekday_of x) (weekday_of run.last)) w) (sym first_is)
        ∙ ap (λ x. week_has (WeekRun (weekday_of end.first) (weekday_of x)) w) (sym last_is)
        ∙ week_has_is end.first start.last w fine.2.0 fine.1
        ∙ round start.first end.first start.last end.last w (equal_test start.first 0 a.0) (equal_test end.last 6 b.0)
        (lt_test start.last end.first c.0) fine.2.0 w_below
    go false tests is = absurd (cc)

week_run_has :
    (rs : List Span) (run : Span) (w : ℕ) → w < 7 → AreSpansBelow 7 rs → week_run rs ≡ Some run →
    week_has (WeekRun (weekday_of run.first) (weekday_of run.last)) w ≡ list_any (span_has w) rs
week_run_has [] run w w_below fine is = absurd (cc)
week_run_has (a ∷ []) run w w_below fine is = go (nat_le (a.first + 2) a.last) refl is
  where
    go :
        (b : Bool) → nat_le (a.first + 2) a.last ≡ b → (if b then Some a else None) ≡ Some run →
        week_has (WeekRun (weekday_of run.first) (weekday_of run.last)) w ≡ list_any (span_has w) (a ∷ [])
    go true tests is =
        let same : a ≡ run = cc in
        let order = le_test (a.first + 2) a.last tests in
        ap (λ (r : Span). week_has (WeekRun (weekday_of r.first) (weekday_of r.last)) w) (sym same)
        ∙ week_has_is a.first a.last w fine.0 fine.1 ∙ straight a.first a.last w (omega arith) fine.1 w_below ∙ sym (or_none (span_has w a))
    go false tests is = absurd (cc)
week_run_has (start ∷ end ∷ []) run w w_below fine is = week_round_has start end run w w_below fine is
week_run_has (a ∷ b ∷ c ∷ more) run w w_below fine is = absurd (cc)

-- what is said of weekdays has just these
week_said_has : (ws : List ℕ) (w : ℕ) → w < 7 → AreBelow 7 ws → week_has (week_said ws) w ≡ has_number ws w
week_said_has ws w w_below below = go (week_run (runs ws)) refl
  where
    go : (o : Option Span) → week_run (runs ws) ≡ o → week_has (week_by o ws) w ≡ has_number ws w
    go None is = week_list_has ws w below
    go (Some run) is = week_run_has (runs ws) run w w_below (runs_below 7 [] ws tt below) is ∙ runs_have_all w ws

-- ---- dates

any_reversed : (test : Span → Bool) (xs ys : List Span) → list_any test (map turned_span (reverse_aux xs ys))
    ≡ (list_any (λ x. test (turned_span x)) xs || list_any (λ x. test (turned_span x)) ys)
any_reversed test [] ys = any_map ys
  where
    any_map : (xs : List Span) → list_any test (map turned_span xs) ≡ list_any (λ x. test (turned_span x)) xs
    any_map [] = refl
    any_map (x ∷ xs) = ap (λ b. test (turned_span x) || b) (any_map xs)
any_reversed test (x ∷ xs) ys =
    any_reversed test xs (x ∷ ys) ∙ moved (list_any (λ x. test (turned_span x)) xs) (test (turned_span x)) (list_any (λ x. test (turned_span x)) ys)
  where
    moved : (a b c : Bool) → (a || (b || c)) ≡ ((b || a) || c)
    moved true true c = refl
    moved true false c = refl
    moved false true c = refl
    moved false false c = refl

turned_has : (values : Values) (p : ℕ) → places_have (turned values) p ≡ values_have values p
turned_has (Steps first last step) p = refl
turned_has (Items spans) p =
    any_reversed (λ s. nat_le s.last p && nat_le p s.first) spans [] ∙ or_none (list_any (span_has p) spans)

places_said_has : (places : List ℕ) (d p : ℕ) → 1 ≤ p → dates_have (places_said places) d p ≡ has_number places p
places_said_has [] d p low = refl
places_said_has (v ∷ []) d p low = turned_has (values_said (v ∷ [])) p ∙ values_said_have (v ∷ []) p
places_said_has (v ∷ w ∷ more) d p low = go ((v == 1) && is_spaced 1 v (w ∷ more)) refl
  where
    from_one : (v last p : ℕ) → v ≡ 1 → 1 ≤ p → nat_le p last ≡ (nat_le v p && nat_le p last)
    from_one v last p is low = grind (arith, nat_tests)

    go :
        (b : Bool) → ((v == 1) && is_spaced 1 v (w ∷ more)) ≡ b →
        dates_have (if b then LastDays (last_of w more) else FromEnd (turned (values_said (v ∷ w ∷ more)))) d p ≡ has_number (v ∷ w ∷ more) p
    go true tests =
        let parts = and_parts (v == 1) (is_spaced 1 v (w ∷ more)) tests in
        from_one v (last_of w more) p (equal_test v 1 parts.0) low ∙ sym (ones v (last_of w more) p)
        ∙ steps_have_all 1 p v (w ∷ more) (omega arith) parts.1
    go false tests = turned_has (values_said (v ∷ w ∷ more)) p ∙ values_said_have (v ∷ w ∷ more) p

dates_said_has :
    (from_end : Bool) (days : List ℕ) (d p : ℕ) → 1 ≤ p → dates_have (dates_said from_end days) d p ≡ has_number days (if from_end then p else d)
dates_said_has true days d p low = places_said_has days d p low
dates_said_has false days d p low = values_said_have days d

-- the k-th week has its days
nth_week_has : (days : List ℕ) (k d : ℕ) → 1 ≤ d → nth_week days ≡ Some k → ((d + 6) / 7 == k) ≡ has_number days d
nth_week_has [] k d low is = absurd (cc)
nth_week_has (v ∷ vs) k d low is = go (is_spaced 1 v vs && ((v % 7 == 1) && ((last_of v vs == v + 6) && nat_lt v 28))) refl is
  where
    week_of : (v last k d : ℕ) → 1 ≤ d → v % 7 ≡ 1 → last ≡ v + 6 → last / 7 ≡ k → ((d + 6) / 7 == k) ≡ (nat_le v d && nat_le d last)
    week_of v last k d low start last_is k_is =
        elim (cases_lt d v) as (λ _. ((d + 6) / 7 == k) ≡ (nat_le v d && nat_le d last)) [
          | inl before ↦ let less : (d + 6) / 7 < k = omega arith in early ((d + 6) / 7) v last k d less before
          | inr from ↦
              elim (cases_lt last d) as (λ _. ((d + 6) / 7 == k) ≡ (nat_le v d && nat_le d last)) [
                | inl after ↦ let more : k < (d + 6) / 7 = omega arith in late ((d + 6) / 7) v last k d more after
                | inr to ↦ let same : (d + 6) / 7 ≡ k = omega arith in inside ((d + 6) / 7) v last k d same from to
              ]
        ]
      where
        early : (q v last k d : ℕ) → q < k → d < v → (q == k) ≡ (nat_le v d && nat_le d last)
        early q v last k d less before = grind (arith, nat_tests)

        late : (q v last k d : ℕ) → k < q → last < d → (q == k) ≡ (nat_le v d && nat_le d last)
        late q v last k d more after = grind (arith, nat_tests)

        inside : (q v last k d : ℕ) → q ≡ k → v ≤ d → d ≤ last → (q == k) ≡ (nat_le v d && nat_le d last)
        inside q v last k d same from to = grind (arith, nat_tests)

    go :
        (b : Bool) → (is_spaced 1 v vs && ((v % 7 == 1) && ((last_of v vs == v + 6) && nat_lt v 28))) ≡ b →
        (if b then Some (last_of v vs / 7) else None) ≡ Some k → ((d + 6) / 7 == k) ≡ has_number (v ∷ vs) d
    go true tests is =
        let a = and_parts (is_spaced 1 v vs) ((v % 7 == 1) && ((last_of v vs == v + 6) && nat_lt v 28)) tests in
        let b = and_parts (v % 7 == 1) ((last_of v vs == v + 6) && nat_lt v 28) a.1 in
        let c = and_parts (last_of v vs == v + 6) (nat_lt v 28) b.1 in
        let k_is : last_of v vs / 7 ≡ k = cc in
        week_of v (last_of v vs) k d low (equal_test (v % 7) 1 b.0) (equal_test (last_of v vs) (v + 6) c.0) k_is
        ∙ sym (ones v (last_of v vs) d) ∙ steps_have_all 1 d v vs (omega arith) a.0
    go false tests is = absurd (cc)

-- ---- days

-- a day of the month, its place from the month's end, and a weekday
pub record IsPlace (d p w : ℕ) : Type 0 where
  pub day_from : 1 ≤ d
  pub day_to : d ≤ 31
  pub place_from : 1 ≤ p
  pub place_to : p ≤ 31
  pub weekday : w < 7

counted_from : (from_end : Bool) (d p w : ℕ) → IsPlace d p w → 1 ≤ (if from_end then p else d)
counted_from true d p w is = is.place_from
counted_from false d p w is = is.day_from

counted_to : (from_end : Bool) (d p w : ℕ) → IsPlace d p w → (if from_end then p else d) ≤ 31
counted_to true d p w is = is.place_to
counted_to false d p w is = is.day_to

nth_is : (k : ℕ) (from_end : Bool) (weekday : Weekday) (d p w : ℕ) →
    days_have (OnNth k from_end weekday) d p w ≡ ((((if from_end then p else d) + 6) / 7 == k) && (weekday_number weekday == w))
nth_is k true weekday d p w = refl
nth_is k false weekday d p w = refl

both_has :
    (from_end : Bool) (days weekdays : List ℕ) (d p w : ℕ) → IsPlace d p w → AreBelow 7 weekdays →
    days_have (OnBoth (dates_said from_end days) (week_said weekdays)) d p w ≡ (has_number days (if from_end then p else d) && has_number weekdays w)
both_has from_end days weekdays d p w place below =
    let dates = dates_said_has from_end days d p place.place_from in
    let week = week_said_has weekdays w place.weekday below in
    λ i. dates i && week i

both_by_has :
    (o : Option ℕ) (from_end : Bool) (days weekdays : List ℕ) (d p w : ℕ) → IsPlace d p w → AreBelow 7 weekdays → nth_week days ≡ o →
    days_have (both_by o from_end days weekdays) d p w ≡ (has_number days (if from_end then p else d) && has_number weekdays w)
both_by_has None from_end days weekdays d p w place below is = both_has from_end days weekdays d p w place below
both_by_has (Some k) from_end days [] d p w place below is = both_has from_end days [] d p w place below
both_by_has (Some k) from_end days (x ∷ []) d p w place below is =
    let dates = nth_week_has days k (if from_end then p else d) (counted_from from_end d p w place) is in
    let week = ap (λ n. n == w) (weekday_is x below.0) ∙ sym (or_none (x == w)) in
    nth_is k from_end (weekday_of x) d p w ∙ (λ i. dates i && week i)
both_by_has (Some k) from_end days (x ∷ y ∷ more) d p w place below is = both_has from_end days (x ∷ y ∷ more) d p w place below

all_days : (from_end : Bool) (days : List ℕ) (d p w : ℕ) → IsPlace d p w → is_whole 1 31 days ≡ true → has_number days (if from_end then p else d) ≡ true
all_days from_end days d p w place whole =
    whole_has 1 31 days (if from_end then p else d) whole (counted_from from_end d p w place) (counted_to from_end d p w place)

all_weekdays : (weekdays : List ℕ) (d p w : ℕ) → IsPlace d p w → is_whole 0 6 weekdays ≡ true → has_number weekdays w ≡ true
all_weekdays weekdays d p w place whole =
    let below = place.weekday in whole_has 0 6 weekdays w whole (omega arith) (omega arith)

both_said_has :
    (from_end : Bool) (days weekdays : List ℕ) (d p w : ℕ) → IsPlace d p w → AreBelow 7 weekdays →
    days_have (both_said from_end days weekdays) d p w ≡ (has_number days (if from_end then p else d) && has_number weekdays w)
both_said_has from_end days weekdays d p w place below = go (is_whole 1 31 days) (is_whole 0 6 weekdays) refl refl
  where
    go :
        (a b : Bool) → is_whole 1 31 days ≡ a → is_whole 0 6 weekdays ≡ b →
        days_have
        (if a
        then (if b then AnyDay else OnWeekdays (week_said weekdays))
        else (if b then OnDates (dates_said from_end days) else both_by (nth_week days) from_end days weekdays)) d p w
        ≡ (has_number days (if from_end then p else d) && has_number weekdays w)
    go true true whole all =
        let dates = all_days from_end days d p w place whole in
        let week = all_weekdays weekdays d p w place all in
        λ i. sym dates i && sym week i
    go true false whole all =
        week_said_has weekdays w place.weekday below ∙ ap (λ x. x && has_number weekdays w) (sym (all_days from_end days d p w place whole))
    go false true whole all =
        dates_said_has from_end days d p place.place_from
        ∙ with_true (has_number days (if from_end then p else d)) (has_number weekdays w) (all_weekdays weekdays d p w place all)
      where
        with_true : (a b : Bool) → b ≡ true → a ≡ (a && b)
        with_true true b is = sym is
        with_true false b is = refl
    go false false whole all = both_by_has (nth_week days) from_end days weekdays d p w place below refl

either_said_has :
    (from_end : Bool) (days weekdays : List ℕ) (d p w : ℕ) → IsPlace d p w → AreBelow 7 weekdays →
    days_have (either_said from_end days weekdays) d p w ≡ (has_number days (if from_end then p else d) || has_number weekdays w)
either_said_has from_end days weekdays d p w place below = go (is_whole 1 31 days || is_whole 0 6 weekdays) refl
  where
    one_true : (a b : Bool) → a ≡ true → true ≡ (a || b)
    one_true a b is = ap (λ x. x || b) (sym is)

    other_true : (a b : Bool) → b ≡ true → true ≡ (a || b)
    other_true true b is = refl
    other_true false b is = sym is

    go :
        (b : Bool) → (is_whole 1 31 days || is_whole 0 6 weekdays) ≡ b →
        days_have (if b then AnyDay else OnEither (dates_said from_end days) (week_said weekdays)) d p w
        ≡ (has_number days (if from_end then p else d) || has_number weekdays w)
    go true some =
        elim (or_cases (is_whole 1 31 days) (is_whole 0 6 weekdays) some) as (λ _. true
        ≡ (has_number days (if from_end then p else d) || has_number weekdays w)) [
          | inl whole ↦ one_true (has_number days (if from_end then p else d)) (has_number weekdays w) (all_days from_end days d p w place whole)
          | inr whole ↦ other_true (has_number days (if from_end then p else d)) (has_number weekdays w) (all_weekdays weekdays d p w place whole)
        ]
    go false none =
        let dates = dates_said_has from_end days d p place.place_from in
        let week = week_said_has weekdays w place.weekday below in
        λ i. dates i || week i

-- what is said of days has just these days
pub days_said_has :
    (either from_end : Bool) (days weekdays : List ℕ) (d p w : ℕ) → IsPlace d p w → AreBelow 7 weekdays →
    days_have (days_said either from_end days weekdays) d p w ≡ is_day either from_end days weekdays d p w
days_said_has true from_end days weekdays d p w place below = either_said_has from_end days weekdays d p w place below
days_said_has false from_end days weekdays d p w place below = both_said_has from_end days weekdays d p w place below

-- ---- months and years

-- what holds of each month
each_month :
    (P : ℕ → Type 0) → P 1 → P 2 → P 3 → P 4 → P 5 → P 6 → P 7 → P 8 → P 9 → P 10 → P 11 → P 12 → (m : ℕ) → 1 ≤ m → m < 13 → P m
each_month P a b c d e f g h i j k l zero low high = absurd (omega arith)
each_month P a b c d e f g h i j k l (suc zero) low high = a
each_month P a b c d e f g h i j k l (suc (suc zero)) low high = b
each_month P a b c d e f g h i j k l (suc (suc (suc zero))) low high = c
each_month P a b c d e f g h i j k l (suc (suc (suc (suc zero)))) low high = d
each_month P a b c d e f g h i j k l (suc (suc (suc (suc (suc zero))))) low high = e
each_month P a b c d e f g h i j k l (suc (suc (suc (suc (suc (suc zero)))))) low high = f
each_month P a b c d e f g h i j k l (suc (suc (suc (suc (suc (suc (suc zero))))))) low high = g
each_month P a b c d e f g h i j k l (suc (suc (suc (suc (suc (suc (suc (suc zero)))))))) low high = h
each_month P a b c d e f g h i j k l (suc (suc (suc (suc (suc (suc (suc (suc (suc zero))))))))) low high = i
each_month P a b c d e f g h i j k l (suc (suc (suc (suc (suc (suc (suc (suc (suc (suc zero)))))))))) low high = j
each_month P a b c d e f g h i j k l (suc (suc (suc (suc (suc (suc (suc (suc (suc (suc (suc zero))))))))))) low high = k
each_month P a b c d e f g h i j k l (suc (suc (suc (suc (suc (suc (suc (suc (suc (suc (suc (suc zero)))))))))))) low high = l
each_month P a b c d e f g h i j k l (suc (suc (suc (suc (suc (suc (suc (suc (suc (suc (suc (suc (suc n))))))))))))) low high = absurd (omega arith)

month_is : (m : ℕ) → 1 ≤ m → m < 13 → month_number (month_of m) ≡ m
month_is m low high =
    each_month (λ m. month_number (month_of m) ≡ m) refl refl refl refl refl refl refl refl refl refl refl refl m low high

-- the numbers are those of months
abbrev pub AreMonthNumbers : List ℕ → Type 0
AreMonthNumbers [] = Unit {0}
AreMonthNumbers (m ∷ ms) = (1 ≤ m) × (m < 13) × AreMonthNumbers ms

month_list_has : (ms : List ℕ) (m : ℕ) → AreMonthNumbers ms → months_have (month_list ms) m ≡ has_number ms m
month_list_has [] m are = refl
month_list_has (x ∷ xs) m are =
    let here = ap (λ n. n == m) (month_is x are.0 are.1) in
    let more = month_list_has xs m are.2 in
    λ i. here i || more i

last_month : (v : ℕ) (vs : List ℕ) → AreMonthNumbers (v ∷ vs) → (1 ≤ last_of v vs) × (last_of v vs < 13)
last_month v [] are = (are.0, are.1)
last_month v (w ∷ ws) are = last_month w ws are.2

-- what is said of months has just these
pub months_said_has : (ms : List ℕ) (m : ℕ) → 1 ≤ m → m ≤ 12 → AreMonthNumbers ms → months_have (months_said ms) m ≡ has_number ms m
months_said_has [] m low high are = refl
months_said_has (v ∷ vs) m low high are = by_whole (is_whole 1 12 (v ∷ vs)) refl
  where
    by_run :
        (b : Bool) → (nat_le 2 (length vs) && is_spaced 1 v vs) ≡ b →
        months_have (if b then MonthRun (month_of v) (month_of (last_of v vs)) else month_list (v ∷ vs)) m ≡ has_number (v ∷ vs) m
    by_run true run =
        let last = last_month v vs are in
        ap (λ x. nat_le x m && nat_le m (month_number (month_of (last_of v vs)))) (month_is v are.0 are.1)
        ∙ ap (λ x. nat_le v m && nat_le m x) (month_is (last_of v vs) last.0 last.1)
        ∙ sym (ones v (last_of v vs) m) ∙ steps_have_all 1 m v vs (omega arith) (and_parts (nat_le 2 (length vs)) (is_spaced 1 v vs) run).1
    by_run false run = month_list_has (v ∷ vs) m are

    by_whole :
        (b : Bool) → is_whole 1 12 (v ∷ vs) ≡ b →
        months_have
        (if b
        then AllMonths
        else (if is_run (v ∷ vs) then MonthRun (month_of v) (month_of (last_of v vs)) else month_list (v ∷ vs))) m
        ≡ has_number (v ∷ vs) m
    by_whole true whole = sym (whole_has 1 12 (v ∷ vs) m whole low high)
    by_whole false whole = by_run (is_run (v ∷ vs)) refl

pub members_are_months : (test : ℕ → Bool) (first count : ℕ) → 1 ≤ first → first + count ≤ 13 → AreMonthNumbers (members test first count)
members_are_months test first zero low fits = tt
members_are_months test first (suc n) low fits =
    one_more (test first) first (members test (first + 1) n) low (omega arith) (members_are_months test (first + 1) n (omega arith) (omega arith))
  where
    one_more : (b : Bool) (m : ℕ) (ms : List ℕ) → 1 ≤ m → m < 13 → AreMonthNumbers ms → AreMonthNumbers (cond b (m ∷ ms) ms)
    one_more true m ms low high are = (low, high, are)
    one_more false m ms low high are = are

-- each number of a range passes the test
all_pass : (test : ℕ → Bool) (first count u : ℕ) → list_all test (range_with_len first count) ≡ true → first ≤ u → u < first + count → test u ≡ true
all_pass test first zero u all low high = absurd (omega arith)
all_pass test first (suc n) u all low high =
    let parts = and_parts (test first) (list_all test (range_with_len (first + 1) n)) all in
    elim (cases_lt first u) as (λ _. test u ≡ true) [
      | inl less ↦ all_pass test (first + 1) n u parts.1 (omega arith) (omega arith)
      | inr over ↦ let same : u ≡ first = omega arith in ap test same ∙ parts.0
    ]

-- what is said of years has just these
pub years_said_has : (test : ℕ → Bool) (y : ℕ) → first_year ≤ y → y ≤ last_year → some_have (years_said test) y ≡ test y
years_said_has test y low high = go (list_all test (range_with_len first_year year_count)) refl
  where
    go :
        (b : Bool) → list_all test (range_with_len first_year year_count) ≡ b →
        some_have (if b then None else Some (values_said (members test first_year year_count))) y ≡ test y
    go true all = sym (all_pass test first_year year_count y all low (omega arith))
    go false some = values_said_have (members test first_year year_count) y ∙ members_have test first_year year_count y low (omega arith)

-- whole months are all months
pub months_whole : (months : List ℕ) → is_whole 1 12 months ≡ true → months_said months ≡ AllMonths
months_whole [] whole = absurd (cc)
months_whole (v ∷ vs) whole =
    ap (λ b. if b then AllMonths else (if is_run (v ∷ vs) then MonthRun (month_of v) (month_of (last_of v vs)) else month_list (v ∷ vs))) whole
