-- The sum of a week: each entry in the span counts in one hour of one day.
use Rattle.std.proofs.Common.{◌≡◌, ℕ, zero, suc, ◌+◌, ◌*◌, ◌/◌, ◌%◌, ◌<◌, ◌≤◌, Bool, true, false, cond, ◌&&◌, List, [], ◌∷◌, get_or, map, filter, Option, Some, None, inl, inr, refl, ap, sym, ◌∙◌, arith}
use Rattle.std.specs.Prelude.{◌==◌, count_by, is_some, nat_le, nat_lt, sum_by}
use Rattle.std.specs.List.{list_any, range_with_len}
use Rattle.std.proofs.lemmas.Bool.{and_from, and_left, and_parts, and_right, cases_Bool, cases_eq, cases_lt, eq-eqb, eqb-true, false_from_ne_true, leb-true, le-leb, lt-ltb, ltb-true, ne_eqb, or_parts}
use Rattle.std.proofs.lemmas.Bool.Decides.{nat_tests}
use Rattle.std.proofs.lemmas.List.Sums.{sum_by-cons}
use Rattle.plan_clock.specs.declared.row.Change.{Change}
use Rattle.plan_collect.specs.Agenda.{Planned}
use Rattle.plan_next.specs.Span.{Bounds}
use Rattle.plan_sets.specs.Limits.{end_second}
use Rattle.plan_week.specs.Hours.{hour_at, local_second}
use Rattle.plan_week.specs.Texts.{all_at, all_hours, at_hour, column_sum}
use Rattle.plan_week.specs.Week.{count_of, day_by, day_count, day_sum, days_met, has_hour, hours_of_day, is_counted, is_inside, is_met, starts_in, week_of, week_sum}
use Rattle.plan_week.specs.declared.day.Day.{Day}
use Rattle.plan_week.proofs.CountLemmas.{has_hour_at}
use Rattle.plan_week.proofs.HoursLemmas.{local_in_years}

-- ---- sums over ranges

-- a sum over a range
total : (ℕ → ℕ) → (a n : ℕ) → ℕ
total f a n = sum_by f (range_with_len a n)

total_next : (f : ℕ → ℕ) (a n : ℕ) → total f a (suc n) ≡ f a + total f (a + 1) n
unfolding total
total_next f a n = sum_by-cons f a (range_with_len (a + 1) n)

same_total : (f g : ℕ → ℕ) (n a : ℕ) → ((k : ℕ) → a ≤ k → k < a + n → f k ≡ g k) → total f a n ≡ total g a n
unfolding total
same_total f g zero a same = refl
same_total f g (suc n) a same =
    let here : f a ≡ g a = same a (omega arith) (omega arith) in
    let later = same_total f g n (a + 1) (λ k low high. same k (omega arith) (omega arith)) in
    omega (arith, here, later, total_next f a n, total_next g a n)

total_both : (f g : ℕ → ℕ) (n a : ℕ) → total (λ k. f k + g k) a n ≡ total f a n + total g a n
unfolding total
total_both f g zero a = refl
total_both f g (suc n) a =
    omega (arith, total_both f g n (a + 1), total_next f a n, total_next g a n, total_next (λ k. f k + g k) a n)

total_none : (f : ℕ → ℕ) (n a : ℕ) → ((k : ℕ) → a ≤ k → k < a + n → f k ≡ 0) → total f a n ≡ 0
unfolding total
total_none f zero a none = refl
total_none f (suc n) a none =
    let here : f a ≡ 0 = none a (omega arith) (omega arith) in
    let later = total_none f n (a + 1) (λ k low high. none k (omega arith) (omega arith)) in
    omega (arith, here, later, total_next f a n)

-- one if a number is this one
abbrev one : (n k : ℕ) → ℕ
one n k = cond (n == k) 1 0

one_here : (n k : ℕ) → n ≡ k → one n k ≡ 1
one_here n k is = rw (eq-eqb n k is) refl

one_not : (n k : ℕ) → (n ≡ k → ⊥) → one n k ≡ 0
one_not n k other = rw (ne_eqb n k other) refl

-- the one number of a range that counts
total_one : (f : ℕ → ℕ) (n a j : ℕ) → a ≤ j → j < a + n → f j ≡ 1 → ((k : ℕ) → (j ≡ k → ⊥) → f k ≡ 0) → total f a n ≡ 1
total_one f zero a j low high here other = absurd (omega arith)
total_one f (suc n) a j low high here other = elim (cases_eq j a) [
  | inl first ↦
      let at : f a ≡ 1 = ap f (sym first) ∙ here in
      let none = total_none f n (a + 1) (λ k from to. other k (λ e. omega (arith, first))) in
      omega (arith, at, none, total_next f a n)
  | inr not_first ↦
      let none : f a ≡ 0 = other a not_first in
      let more : a + 1 ≤ j = elim (cases_lt a j) [ inl lt ↦ omega (arith, lt) | inr le ↦ absurd (not_first (omega (arith, le))) ] in
      let later = total_one f n (a + 1) j more (omega arith) here other in
      omega (arith, none, later, total_next f a n)
]

-- ---- days and hours

-- the sum of so many days of what each hour has
abbrev grid : (ℕ → ℕ) → (days : ℕ) → ℕ
grid f days = total (λ day. total (λ hour. f (day * 24 + hour)) 0 24) 0 days

same_grid : (f g : ℕ → ℕ) (days : ℕ) → ((k : ℕ) → f k ≡ g k) → grid f days ≡ grid g days
same_grid f g days same = ap (λ (h : ℕ → ℕ). grid h days) (λ i k. same k i)

grid_both : (f g : ℕ → ℕ) (days : ℕ) → grid (λ k. f k + g k) days ≡ grid f days + grid g days
grid_both f g days =
    same_total (λ day. total (λ hour. f (day * 24 + hour) + g (day * 24 + hour)) 0 24)
    (λ day. total (λ hour. f (day * 24 + hour)) 0 24 + total (λ hour. g (day * 24 + hour)) 0 24) days 0
    (λ day low high. total_both (λ hour. f (day * 24 + hour)) (λ hour. g (day * 24 + hour)) 24 0)
    ∙ total_both (λ day. total (λ hour. f (day * 24 + hour)) 0 24) (λ day. total (λ hour. g (day * 24 + hour)) 0 24) days 0

grid_none : (f : ℕ → ℕ) (days : ℕ) → ((k : ℕ) → f k ≡ 0) → grid f days ≡ 0
grid_none f days none =
    total_none (λ day. total (λ hour. f (day * 24 + hour)) 0 24) days 0
    (λ day low high. total_none (λ hour. f (day * 24 + hour)) 24 0 (λ hour from to. none (day * 24 + hour)))

-- the one hour that counts
grid_one : (f : ℕ → ℕ) (days j : ℕ) → j / 24 < days → f j ≡ 1 → ((k : ℕ) → (j ≡ k → ⊥) → f k ≡ 0) → grid f days ≡ 1
grid_one f days j lt here other =
    total_one (λ day. total (λ hour. f (day * 24 + hour)) 0 24) days 0 (j / 24) (omega arith) (omega arith)
    (total_one (λ hour. f (j / 24 * 24 + hour)) 24 0 (j % 24) (omega arith) (omega arith)
    (let at : j / 24 * 24 + j % 24 ≡ j = omega arith in ap f at ∙ here)
    (λ hour not. other (j / 24 * 24 + hour) (λ e. not (omega arith))))
    (λ day not. total_none (λ hour. f (day * 24 + hour)) 24 0 (λ hour from to. other (day * 24 + hour) (λ e. not (omega arith))))

-- ---- the week

no_starts : (hours : List (Option ℕ)) → list_any is_some hours ≡ false → sum_by count_of hours ≡ 0
no_starts [] none = refl
no_starts (None ∷ hours) none = omega (arith, sum_by-cons count_of None hours, no_starts hours none)
no_starts (Some n ∷ hours) none = absurd cc

-- days that aren't in the span have no starts
sum_of_met : (days : List Day) → sum_by day_sum (filter is_met days) ≡ sum_by day_sum days
sum_of_met [] = refl
sum_of_met (day ∷ days) = elim (cases_Bool (is_met day)) [
  | inl met ↦ rw met (omega (arith, sum_by-cons day_sum day (filter is_met days), sum_by-cons day_sum day days, sum_of_met days))
  | inr not ↦ rw not (omega (arith, no_starts day.hours not, sum_by-cons day_sum day days, sum_of_met days))
]

sum_of_map : {X : Type 0} (f : X → ℕ) (g : ℕ → X) (n a : ℕ) → sum_by f (map g (range_with_len a n)) ≡ total (λ k. f (g k)) a n
unfolding total
sum_of_map f g zero a = refl
sum_of_map f g (suc n) a =
    omega (arith, sum_by-cons f (g a) (map g (range_with_len (a + 1) n)), total_next (λ k. f (g k)) a n, sum_of_map f g n (a + 1))

-- the sum of the days that are met is that of all hours
sum_of_days : (starts : ℕ → Option ℕ) (days : ℕ) → week_sum (days_met starts 0 days) ≡ grid (λ hour. count_of (starts hour)) days
unfolding days_met hours_of_day
sum_of_days starts days =
    sum_of_met (map (day_by starts) (range_with_len 0 days)) ∙ sum_of_map day_sum (day_by starts) days 0
    ∙ same_total (λ day. day_sum (day_by starts day)) (λ day. total (λ hour. count_of (starts (day * 24 + hour))) 0 24) days 0
    (λ day low high. sum_of_map count_of (λ hour. starts (day * 24 + hour)) 24 0)

-- ---- the entries

-- whether an entry counts in an hour
abbrev counts : List Change → Bounds → (entry : ℕ × ℕ) → (hour : ℕ) → ℕ
counts clock span entry hour = cond (is_counted clock span hour entry) 1 0

-- an entry counts only in an hour of the span
count_more :
    (clock : List Change) (span : Bounds) (entry : ℕ × ℕ) (entries : List (ℕ × ℕ)) (hour : ℕ) →
    count_of (starts_in clock (record { span = span; entries = entry ∷ entries }) hour)
    ≡ counts clock span entry hour + count_of (starts_in clock (record { span = span; entries = entries }) hour)
count_more clock span entry entries hour = elim (cases_Bool (has_hour clock span hour)) [
  | inl has ↦ rw has (sum_by-cons (λ e. cond (is_counted clock span hour e) 1 0) entry entries)
  | inr none ↦
      let not : is_counted clock span hour entry ≡ false = false_from_ne_true _ (λ is.
      (let both = and_parts (is_inside span entry.0) (hour_at clock entry.0 == hour) is in
      let inside = and_parts (nat_le span.since entry.0) (nat_lt entry.0 span.upto) both.0 in
      let has = has_hour_at clock span entry.0 hour (leb-true span.since entry.0 inside.0) (ltb-true entry.0 span.upto inside.1)
      (eqb-true (hour_at clock entry.0) hour both.1) in cc)) in
      rw (none, not) refl
]

-- an entry in the span counts in one hour
counts_once :
    (clock : List Change) (span : Bounds) (entry : ℕ × ℕ) (days : ℕ) → span.upto ≤ end_second → days ≡ day_count →
    grid (counts clock span entry) days ≡ cond (is_inside span entry.0) 1 0
counts_once clock span entry days years all = elim (cases_Bool (is_inside span entry.0)) [
  | inl inside ↦
      let parts = and_parts (nat_le span.since entry.0) (nat_lt entry.0 span.upto) inside in
      let before = ltb-true entry.0 span.upto parts.1 in
      let within = local_in_years clock entry.0 (omega arith) in
      grid_one (counts clock span entry) days (hour_at clock entry.0) (omega arith)
      (ap (λ is. cond is 1 0) (and_from _ _ inside (eq-eqb (hour_at clock entry.0) (hour_at clock entry.0) refl)))
      (λ k other. ap (λ is. cond is 1 0) (and_right (is_inside span entry.0) _ (ne_eqb (hour_at clock entry.0) k other)))
      ∙ sym (ap (λ is. cond is 1 0) inside)
  | inr out ↦
      grid_none (counts clock span entry) days (λ k. ap (λ is. cond is 1 0) (and_left _ (hour_at clock entry.0 == k) out))
      ∙ sym (ap (λ is. cond is 1 0) out)
]

sum_of_entries :
    (clock : List Change) (span : Bounds) (entries : List (ℕ × ℕ)) (days : ℕ) → span.upto ≤ end_second → days ≡ day_count →
    grid (λ hour. count_of (starts_in clock (record { span = span; entries = entries }) hour)) days
    ≡ count_by (λ entry. is_inside span entry.0) entries
sum_of_entries clock span [] days years all = grid_none _ days (λ hour. none (has_hour clock span hour))
  where
    none : (is : Bool) → count_of (cond is (Some 0) None) ≡ 0
    none true = refl
    none false = refl
sum_of_entries clock span (entry ∷ entries) days years all =
    let later = sum_of_entries clock span entries days years all in
    let once = counts_once clock span entry days years all in
    let more = same_grid _ _ days (count_more clock span entry entries) in
    let both = grid_both (counts clock span entry) (λ hour. count_of (starts_in clock (record { span = span; entries = entries }) hour)) days in
    let next = sum_by-cons (λ (e : ℕ × ℕ). cond (is_inside span e.0) 1 0) entry entries in
    omega (arith, later, once, more, both, next)

-- the sum of all days is the number of entries in the span
pub sum_is : (clock : List Change) (made : Planned) → made.span.upto ≤ end_second →
    week_sum (week_of clock made) ≡ count_by (λ entry. is_inside made.span entry.0) made.entries
sum_is clock made years =
    sum_of_days (starts_in clock made) day_count ∙ sum_of_entries clock made.span made.entries day_count years refl

-- ---- the row of all days

-- one hour of all days has no more starts than all hours
pub column_within : (hour : ℕ) (days : List Day) → column_sum hour days ≤ week_sum days
column_within hour [] = omega arith
column_within hour (day ∷ days) =
    omega (
      arith,
      column_within hour days,
      sum_by-cons (λ (d : Day). count_of (at_hour hour d)) day days,
      sum_by-cons day_sum day days,
      one_within hour day.hours,
    )
  where
    one_within : (k : ℕ) (hours : List (Option ℕ)) → count_of (get_or hours k None) ≤ sum_by count_of hours
    one_within k [] = omega arith
    one_within zero (x ∷ xs) = omega (arith, sum_by-cons count_of x xs)
    one_within (suc k) (x ∷ xs) = omega (arith, sum_by-cons count_of x xs, one_within k xs)

total_shift : (f : ℕ → ℕ) (n a : ℕ) → total f (suc a) n ≡ total (λ k. f (suc k)) a n
unfolding total
total_shift f zero a = refl
total_shift f (suc n) a =
    let next : suc a + 1 ≡ suc (a + 1) = omega arith in
    let later = ap (λ b. total f b n) next ∙ total_shift f n (a + 1) in
    omega (arith, later, total_next f (suc a) n, total_next (λ k. f (suc k)) a n)

-- the first hours of a list have no more starts than all
firsts_within : (hours : List (Option ℕ)) (n : ℕ) → total (λ k. count_of (get_or hours k None)) 0 n ≤ sum_by count_of hours
unfolding total
firsts_within hours zero = omega arith
firsts_within [] (suc n) =
    let none = total_none (λ k. count_of (get_or {A = Option ℕ} [] k None)) (suc n) 0 (λ k low high. refl) in
    omega (arith, none)
firsts_within (x ∷ xs) (suc n) =
    let shift = total_shift (λ k. count_of (get_or (x ∷ xs) k None)) n 0 in
    omega (arith, shift, firsts_within xs n, total_next (λ k. count_of (get_or (x ∷ xs) k None)) 0 n, sum_by-cons count_of x xs)

columns_within : (days : List Day) → total (λ hour. column_sum hour days) 0 24 ≤ week_sum days
columns_within [] =
    let none = total_none (λ hour. column_sum hour []) 24 0 (λ k low high. refl) in
    omega (arith, none)
columns_within (day ∷ days) =
    let split = same_total (λ hour. column_sum hour (day ∷ days)) (λ hour. count_of (at_hour hour day) + column_sum hour days) 24 0
    (λ k low high. sum_by-cons (λ (d : Day). count_of (at_hour k d)) day days) in
    let both = total_both (λ hour. count_of (at_hour hour day)) (λ hour. column_sum hour days) 24 0 in
    omega (arith, split, both, columns_within days, firsts_within day.hours 24, sum_by-cons day_sum day days)

less_total : (f g : ℕ → ℕ) (n a : ℕ) → ((k : ℕ) → f k ≤ g k) → total f a n ≤ total g a n
unfolding total
less_total f g zero a less = omega arith
less_total f g (suc n) a less = omega (arith, less a, less_total f g n (a + 1) less, total_next f a n, total_next g a n)

-- the row of all days has no more starts than they have
pub rows_within : (days : List Day) → sum_by count_of (all_hours days) ≤ week_sum days
unfolding all_hours
rows_within days =
    let whole = sum_of_map count_of (all_at days) 24 0 in
    let less = less_total (λ hour. count_of (all_at days hour)) (λ hour. column_sum hour days) 24 0 one_less in
    omega (arith, whole, less, columns_within days)
  where
    one_less : (hour : ℕ) → count_of (all_at days hour) ≤ column_sum hour days
    one_less hour = elim (cases_Bool (list_any (λ (day : Day). is_some (at_hour hour day)) days)) [
      | inl some ↦ rw some (omega arith)
      | inr none ↦ rw none (omega arith)
    ]
