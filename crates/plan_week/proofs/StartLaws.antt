-- Each start of a job in the span is counted on the day and in the hour that the clock shows at it.
use Rattle.std.proofs.Common.{◌≡◌, ℕ, zero, suc, ◌+◌, ◌-◌, ◌*◌, ◌/◌, ◌%◌, ◌<◌, ◌≤◌, Bool, true, false, cond, ◌&&◌, List, [], ◌∷◌, length, length-append, map, filter, Option, Some, None, inl, inr, refl, ap, sym, ◌∙◌, arith}
use Rattle.std.specs.Prelude.{◌==◌, count_by, is_some, nat_le, nat_lt, slice_get}
use Rattle.std.specs.List.{flat_map, list_any, range_with_len}
use Rattle.std.proofs.lemmas.Bool.{and_from, and_parts, cases_Bool, cases_eq, eq-eqb, eqb-true, le-leb, lt-ltb, or_left, or_right}
use Rattle.std.proofs.lemmas.List.FromFn.{get_or-map-range_with_len}
use Rattle.std.proofs.lemmas.List.Sums.{sum_by-append, sum_by-cons}
use Rattle.plan_clock.specs.declared.row.Change.{Change}
use Rattle.plan_match.specs.declared.rule.Rule.{Rule}
use Rattle.plan_collect.specs.Agenda.{agenda, planned, row_from}
use Rattle.plan_collect.specs.Windows.{agenda_of_windows, has_window, meets, planned_windows, timings_of}
use Rattle.plan_collect.proofs.EntriesLemmas.{each_once}
use Rattle.plan_next.specs.Span.{Bounds}
use Rattle.plan_next.specs.Starts.{is_start}
use Rattle.plan_rules.specs.Job.{JobParts}
use Rattle.plan_sets.specs.Limits.{end_second, seconds_a_day}
use Rattle.plan_week.specs.Hours.{hour_at, local_second}
use Rattle.plan_week.specs.Laws.{StartsAreInTheirHours, SumIsOfAllWithoutDelays, has_start_at}
use Rattle.plan_week.specs.Texts.{at_hour}
use Rattle.plan_week.specs.Week.{count_of, day_by, day_count, days_met, has_hour, hours_of_day, is_counted, is_inside, is_met, starts_in, week_of}
use Rattle.plan_week.specs.declared.day.Day.{Day}
use Rattle.plan_week.proofs.CountLemmas.{has_hour_at}
use Rattle.plan_week.proofs.HoursLemmas.{local_in_years}
use Rattle.plan_week.proofs.SumLemmas.{sum_is}

-- a day of a range that is in the span and passes a test
any_met :
    (test : Day → Bool) (f : ℕ → Day) (n a j : ℕ) → a ≤ j → j < a + n → is_met (f j) ≡ true → test (f j) ≡ true →
    list_any test (filter is_met (map f (range_with_len a n))) ≡ true
any_met test f zero a j low high met is = absurd (omega arith)
any_met test f (suc n) a j low high met is = elim (cases_eq j a) [
  | inl here ↦
      let now : is_met (f a) ≡ true = ap (λ k. is_met (f k)) (sym here) ∙ met in
      let passes : test (f a) ≡ true = ap (λ k. test (f k)) (sym here) ∙ is in
      rw now (or_left (test (f a)) _ passes)
  | inr other ↦
      let later = any_met test f n (a + 1) j (not_first other) (omega arith) met is in
      skip (is_met (f a)) later
]
  where
    not_first : (j ≡ a → ⊥) → a + 1 ≤ j
    not_first other = elim (cases_eq j a) [ inl here ↦ absurd (other here) | inr more ↦ omega arith ]

    skip : (met : Bool) → list_any test (filter is_met (map f (range_with_len (a + 1) n))) ≡ true →
        list_any test (cond met (f a ∷ filter is_met (map f (range_with_len (a + 1) n))) (filter is_met (map f (range_with_len (a + 1) n))))
        ≡ true
    skip true later = or_right (test (f a)) _ later
    skip false later = later

some_in :
    (f : ℕ → Option ℕ) (n a j : ℕ) → a ≤ j → j < a + n → is_some (f j) ≡ true → list_any is_some (map f (range_with_len a n)) ≡ true
some_in f zero a j low high is = absurd (omega arith)
some_in f (suc n) a j low high is = elim (cases_eq j a) [
  | inl here ↦ or_left (is_some (f a)) _ (ap (λ k. is_some (f k)) (sym here) ∙ is)
  | inr other ↦ or_right (is_some (f a)) _ (some_in f n (a + 1) j (not_first other) (omega arith) is)
]
  where
    not_first : (j ≡ a → ⊥) → a + 1 ≤ j
    not_first other = elim (cases_eq j a) [ inl here ↦ absurd (other here) | inr more ↦ omega arith ]

-- the day of an hour with starts is in the span, and has them
met_by :
    (starts : ℕ → Option ℕ) (hour : ℕ) → is_some (starts hour) ≡ true → is_met (day_by starts (hour / 24)) ≡ true
unfolding hours_of_day
met_by starts hour is =
    let at : hour / 24 * 24 + hour % 24 ≡ hour = omega arith in
    some_in (λ k. starts (hour / 24 * 24 + k)) 24 0 (hour % 24) (omega arith) (omega arith) (ap (λ k. is_some (starts k)) at ∙ is)

at_hour-day_by : (starts : ℕ → Option ℕ) (hour : ℕ) → at_hour (hour % 24) (day_by starts (hour / 24)) ≡ starts hour
unfolding hours_of_day
at_hour-day_by starts hour =
    let at : hour / 24 * 24 + hour % 24 ≡ hour = omega arith in
    get_or-map-range_with_len (λ k. starts (hour / 24 * 24 + k)) 0 24 (hour % 24) (hour % 24) None (omega arith) (omega arith)
    ∙ ap starts at

-- a local second whose hour has starts
met_at :
    (starts : ℕ → Option ℕ) (local all : ℕ) → local / seconds_a_day < all → 0 < count_of (starts (local / 3600)) →
    is_some (starts (local / 3600)) ≡ true → list_any (has_start_at local) (days_met starts 0 all) ≡ true
unfolding days_met
met_at starts local all within some is =
    let hour = local / 3600 in
    let day : hour / 24 ≡ local / seconds_a_day = omega arith in
    let place : local % seconds_a_day / 3600 ≡ hour % 24 = omega arith in
    let there : at_hour (local % seconds_a_day / 3600) (day_by starts (hour / 24)) ≡ starts hour =
    ap (λ k. at_hour k (day_by starts (hour / 24))) place ∙ at_hour-day_by starts hour in
    any_met (has_start_at local) (day_by starts) all 0 (hour / 24) (omega arith) (omega arith) (met_by starts hour is)
    (and_from _ _ (eq-eqb (hour / 24) (local / seconds_a_day) day)
    (ap (λ (found : Option ℕ). nat_lt 0 (count_of found)) there ∙ lt-ltb 0 (count_of (starts hour)) some))

-- a weaker test counts no fewer
count_weaker :
    (p q : ℕ × ℕ → Bool) (entries : List (ℕ × ℕ)) → ((entry : ℕ × ℕ) → p entry ≡ true → q entry ≡ true) →
    count_by p entries ≤ count_by q entries
count_weaker p q [] weaker = omega arith
count_weaker p q (entry ∷ entries) weaker =
    omega (
      arith,
      one_less (p entry) (q entry) (weaker entry),
      count_weaker p q entries weaker,
      sum_by-cons (λ e. cond (p e) 1 0) entry entries,
      sum_by-cons (λ e. cond (q e) 1 0) entry entries,
    )
  where
    one_less : (a b : Bool) → (a ≡ true → b ≡ true) → cond a 1 0 ≤ cond b 1 0
    one_less true b is = rw (is refl) (omega arith)
    one_less false b is = omega arith

-- the entry of a start is one of those that count in its hour
some_start :
    (clock : List Change) (jobs : List JobParts) (span : Bounds) (number second : ℕ) (job : JobParts) → slice_get jobs number ≡ Some job →
    is_start job.rule second ≡ true → span.since ≤ second → second < span.upto →
    0 < count_by (is_counted clock span (hour_at clock second)) (agenda_of_windows (timings_of jobs) span)
some_start clock jobs span number second job there starts low high =
    let opens : has_window (Some job) span second ≡ true =
    and_from _ _ starts (and_from _ _ (lt-ltb span.since span.upto (omega arith))
    (and_from _ _ (lt-ltb second span.upto high) (le-leb span.since (second + job.delay) (omega arith)))) in
    let once = each_once jobs span second number ∙ ap (λ (found : Option JobParts). cond (has_window found span second) 1 0) there
    ∙ ap (λ is. cond is 1 0) opens in
    let more = count_weaker (λ entry. entry.0 == second && entry.1 == number) (is_counted clock span (hour_at clock second))
    (agenda_of_windows (timings_of jobs) span) weaker in
    omega (arith, once, more)
  where
    inside : (n : ℕ) → n ≡ second → is_inside span n ≡ true
    inside n is = and_from _ _ (le-leb span.since n (omega arith)) (lt-ltb n span.upto (omega arith))

    weaker : (entry : ℕ × ℕ) → (entry.0 == second && entry.1 == number) ≡ true → is_counted clock span (hour_at clock second) entry ≡ true
    weaker entry is =
        let same : entry.0 ≡ second = eqb-true entry.0 second (and_parts (entry.0 == second) (entry.1 == number) is).0 in
        and_from _ _ (inside entry.0 same) (eq-eqb (hour_at clock entry.0) (hour_at clock second) (ap (hour_at clock) same))

pub in_their_hours : StartsAreInTheirHours
in_their_hours clock jobs span number second job years there starts low high =
    let made = planned_windows (timings_of jobs) span in
    let hour = hour_at clock second in
    let has : has_hour clock span hour ≡ true = has_hour_at clock span second hour low high refl in
    let some = some_start clock jobs span number second job there starts low high in
    let is : starts_in clock made hour ≡ Some (count_by (is_counted clock span hour) made.entries) =
    ap (λ b. cond b (Some (count_by (is_counted clock span hour) made.entries)) None) has in
    let counted = ap count_of is in
    let within = local_in_years clock second (omega arith) in
    met_at (starts_in clock made) (local_second clock second) day_count (omega arith) (omega (arith, counted, some)) (ap is_some is)

-- ---- without delays

one_row :
    (test : ℕ × ℕ → Bool) (second : ℕ) (rules : List Rule) (job : ℕ) → ((j : ℕ) → test (second, j) ≡ true) →
    count_by test (row_from job rules second) ≡ length (row_from job rules second)
one_row test second [] job all = refl
one_row test second (rule ∷ rules) job all = elim (cases_Bool (is_start rule second)) [
  | inl starts ↦
      let here : cond {A = ℕ} (test (second, job)) 1 0 ≡ 1 = ap (λ is. cond is 1 0) (all job) in
      let later = one_row test second rules (job + 1) all in
      rw starts (omega (arith, here, later, sum_by-cons (λ e. cond (test e) 1 0) (second, job) (row_from (job + 1) rules second)))
  | inr none ↦ rw none (one_row test second rules (job + 1) all)
]

all_rows :
    (test : ℕ × ℕ → Bool) (rules : List Rule) (n a : ℕ) → ((s j : ℕ) → a ≤ s → s < a + n → test (s, j) ≡ true) →
    count_by test (flat_map (row_from 0 rules) (range_with_len a n)) ≡ length (flat_map (row_from 0 rules) (range_with_len a n))
all_rows test rules zero a all = refl
all_rows test rules (suc n) a all =
    let row = row_from 0 rules a in
    let rest = flat_map (row_from 0 rules) (range_with_len (a + 1) n) in
    omega (
      arith,
      one_row test a rules 0 (λ j. all a j (omega arith) (omega arith)),
      all_rows test rules n (a + 1) (λ s j low high. all s j (omega arith) (omega arith)),
      sum_by-append (λ e. cond (test e) 1 0) row rest,
      length-append row rest,
    )

-- without delays, the sum of all days is the number of all entries
pub sum_is_of_all : SumIsOfAllWithoutDelays
unfolding agenda
sum_is_of_all clock rules span years =
    sum_is clock (planned rules span) years
    ∙ all_rows (λ entry. is_inside span entry.0) rules (span.upto - span.since) span.since
    (λ s j low high. and_from _ _ (le-leb span.since s low) (lt-ltb s span.upto (omega arith)))
