-- Each window that meets the span is an entry once: for `agenda_has_each_window_once`. Weigh one the entry in question, and
-- nothing any other. In its own row it is there once if the job starts then (`row_here`), and in the other rows it isn't
-- (`row_other`).
use Rattle.std.proofs.Common.{◌≡◌, ◌≢◌, ℕ, zero, suc, ◌+◌, ◌<◌, ◌≤◌, Bool, true, false, cond, ◌&&◌, ◌==◌, List, [], ◌∷◌, Some, inl, inr, refl, ap, sym, ◌∙◌, arith}
use Rattle.std.specs.Prelude.{slice_get}
use Rattle.std.specs.List.{range_with_len, flat_map}
use Rattle.std.proofs.lemmas.Bool.{cases_Bool, cases_eq, cases_lt, eq-eqb, ne_eqb, le-ltb}
use Rattle.plan_next.specs.Span.{Bounds}
use Rattle.plan_rules.specs.Job.{JobParts}
use Rattle.plan_collect.specs.Collecting.{weigh}
use Rattle.plan_collect.specs.Windows.{timings_of, windows_from, agenda_of_windows, has_window, HasEachWindowOnce}
use Rattle.plan_collect.proofs.StartsLemmas.{weigh-append, weigh-sum_by}
use Rattle.std.proofs.lemmas.Bool.Decides.{nat_tests}

-- one if this is the entry of the second and the job
abbrev one : (second number : ℕ) → ℕ × ℕ → ℕ
one second number entry = cond (entry.0 == second && entry.1 == number) 1 0

-- one more entry, which isn't the one in question
add_other :
    (second number : ℕ) (is : Bool) (entry : ℕ × ℕ) (row : List (ℕ × ℕ)) (n : ℕ) → one second number entry ≡ 0 →
    weigh (one second number) row ≡ n → weigh (one second number) (cond is (entry ∷ row) row) ≡ n
add_other second number true entry row n other rest = omega (arith, other, rest)
add_other second number false entry row n other rest = rest

add_own :
    (second number : ℕ) (is : Bool) (entry : ℕ × ℕ) (row : List (ℕ × ℕ)) → one second number entry ≡ 1 →
    weigh (one second number) row ≡ 0 → weigh (one second number) (cond is (entry ∷ row) row) ≡ cond is 1 0
add_own second number true entry row own rest = omega (arith, own, rest)
add_own second number false entry row own rest = rest

not_then : (second number n job : ℕ) → n ≢ second → one second number (n, job) ≡ 0
not_then second number n job not = rw (ne_eqb n second not) refl

not_its : (second number n job : ℕ) → job ≢ number → one second number (n, job) ≡ 0
not_its second number n job not = grind (arith, nat_tests, cases_Bool, ne_eqb)

its_own : (second number : ℕ) → one second number (second, number) ≡ 1
its_own second number = rw (eq-eqb second second refl, eq-eqb number number refl) refl

-- a row of another second
row_other :
    (second number job : ℕ) (jobs : List JobParts) (span : Bounds) (n : ℕ) → n ≢ second →
    weigh (one second number) (windows_from job (timings_of jobs) span n) ≡ 0
row_other second number job [] span n not = refl
row_other second number job (first ∷ jobs) span n not = grind (arith, nat_tests, add_other, not_then, row_other second number (job + 1) jobs span n not)

-- a row of later jobs
row_later :
    (second number job : ℕ) (jobs : List JobParts) (span : Bounds) (n : ℕ) → number < job →
    weigh (one second number) (windows_from job (timings_of jobs) span n) ≡ 0
row_later second number job [] span n later = refl
row_later second number job (first ∷ jobs) span n later = grind (arith, nat_tests, add_other, not_its, row_later second number (job + 1) jobs span n (omega arith))

-- the row of the second has the entry once, if the window of the job meets the span
row_here :
    (second job place : ℕ) (jobs : List JobParts) (span : Bounds) →
    weigh (one second (job + place)) (windows_from job (timings_of jobs) span second) ≡ cond
    (has_window (slice_get jobs place) span second) 1 0
row_here second job place [] span = refl
row_here second job zero (first ∷ jobs) span = grind (arith, nat_tests, add_own, its_own, row_later)
row_here second job (suc place) (first ∷ jobs) span = grind (arith, nat_tests, add_other, not_its, row_here second (job + 1) place jobs span)

-- rows that don't weigh anything
rows_other :
    (weight : ℕ × ℕ → ℕ) (row : ℕ → List (ℕ × ℕ)) (a n : ℕ) → ((k : ℕ) → a ≤ k → k < a + n → weigh weight (row k) ≡ 0) →
    weigh weight (flat_map row (range_with_len a n)) ≡ 0
rows_other weight row a zero none = refl
rows_other weight row a (suc n) none =
    let here = none a (omega arith) (omega arith) in
    let later = rows_other weight row (a + 1) n (λ k low high. none k (omega arith) (omega arith)) in
    omega (arith, here, later, weigh-append weight (row a) (flat_map row (range_with_len (a + 1) n)))

-- of all rows only one weighs anything
rows_own :
    (weight : ℕ × ℕ → ℕ) (row : ℕ → List (ℕ × ℕ)) (second a n : ℕ) → ((k : ℕ) → k ≢ second → weigh weight (row k) ≡ 0) →
    a ≤ second → second < a + n → weigh weight (flat_map row (range_with_len a n)) ≡ weigh weight (row second)
rows_own weight row second a zero none low high = absurd (omega arith)
rows_own weight row second a (suc n) none low high =
    let rest = flat_map row (range_with_len (a + 1) n) in
    elim (cases_eq a second) [
      | inl is ↦ (
          let later = rows_other weight row (a + 1) n (λ k from to. none k (omega arith)) in
          let here : weigh weight (row a) ≡ weigh weight (row second) = ap (λ k. weigh weight (row k)) is in
          omega (arith, here, later, weigh-append weight (row a) rest))
      | inr not ↦ (
          let here = none a not in
          let later = rows_own weight row second (a + 1) n none (omega arith) (omega arith) in
          omega (arith, here, later, weigh-append weight (row a) rest))
    ]

-- no window opens at the span's end or later
late_window : (job : JobParts) (span : Bounds) (second : ℕ) → span.upto ≤ second → has_window (Some job) span second ≡ false
late_window job span second late = grind (arith, nat_tests, le-ltb)

none_late : (jobs : List JobParts) (place : ℕ) (span : Bounds) (second : ℕ) → span.upto ≤ second →
    has_window (slice_get jobs place) span second ≡ false
none_late [] place span second late = refl
none_late (job ∷ jobs) zero span second late = late_window job span second late
none_late (job ∷ jobs) (suc place) span second late = none_late jobs place span second late

pub each_once : HasEachWindowOnce
unfolding agenda_of_windows
each_once jobs span second number =
    let windows = windows_from 0 (timings_of jobs) span in
    let all = flat_map windows (range_with_len 0 span.upto) in
    sym (weigh-sum_by (one second number) all)
    ∙ elim (cases_lt second span.upto) [
      | inl inside ↦ (
          let place : 0 + number ≡ number = omega arith in
          rows_own (one second number) windows second 0 span.upto (λ k not. row_other second number 0 jobs span k not) (omega arith)
          (omega arith)
          ∙ (rw place at (row_here second 0 number jobs span)))
      | inr late ↦ (
          let none : has_window (slice_get jobs number) span second ≡ false = none_late jobs number span second late in
          rows_other (one second number) windows 0 span.upto (λ k low high. row_other second number 0 jobs span k (omega arith))
          ∙ (rw none refl))
    ]
