-- A table after a change at one hour.
use Rattle.std.proofs.Common.{◌≡◌, ◌≢◌, ℕ, zero, suc, ◌+◌, ◌-◌, ◌*◌, ◌/◌, ◌%◌, ◌<◌, ◌≤◌, List, [], ◌∷◌, length, map, get_or, Option, Some, None, refl, ap, sym, ◌∙◌, arith}
use Rattle.std.proofs.lemmas.List.FromFn.{get_or-map-range_with_len, length-map-range_with_len}
use Rattle.std.specs.List.{range_with_len}
use Rattle.std.specs.Prelude.{slice_set}
use Rattle.plan_week.specs.Table.{changed_at, day_with, days_by, days_with, found_at, no_day, with_starts}
use Rattle.plan_week.specs.Week.{count_of, day_by, hours_of_day}
use Rattle.plan_week.specs.declared.day.Day.{Day}

-- two functions that agree on a range
pub same_map :
    {X : Type 0} (f g : ℕ → X) (a n : ℕ) → ((k : ℕ) → a ≤ k → k < a + n → f k ≡ g k) →
    map f (range_with_len a n) ≡ map g (range_with_len a n)
same_map f g a zero same = refl
same_map f g a (suc n) same =
    let here : f a ≡ g a = same a (omega arith) (omega arith) in
    let later = same_map f g (a + 1) n (λ k low high. same k (omega arith) (omega arith)) in
    λ i. here i ∷ later i

-- a list by a function is changed at one place
changed_map :
    {X : Type 0} (change : X → X) (f g : ℕ → X) (a n place j : ℕ) → a + place ≡ j → place < n → change (f j) ≡ g j →
    ((k : ℕ) → a ≤ k → k < a + n → k ≢ j → f k ≡ g k) →
    changed_at change place (map f (range_with_len a n)) ≡ map g (range_with_len a n)
changed_map change f g a zero place j at within new same = absurd (omega arith)
changed_map change f g a (suc n) zero j at within new same =
    let first : j ≡ a = omega arith in
    let here : change (f a) ≡ g a = ap (λ k. change (f k)) (sym first) ∙ new ∙ ap g first in
    let later = same_map f g (a + 1) n (λ k low high. same k (omega arith) (omega arith) (λ e. omega arith)) in
    λ i. here i ∷ later i
changed_map change f g a (suc n) (suc place) j at within new same =
    let here : f a ≡ g a = same a (omega arith) (omega arith) (λ e. omega arith) in
    let later = changed_map change f g (a + 1) n place j (omega arith) (omega arith) new
    (λ k low high other. same k (omega arith) (omega arith) other) in
    λ i. here i ∷ later i

-- what is written at a place is a change of what was there
pub changed_within :
    {X : Type 0} (change : X → X) (place : ℕ) (xs : List X) (d y : X) → y ≡ change (get_or xs place d) →
    slice_set xs place y ≡ changed_at change place xs
changed_within change place [] d y is = refl
changed_within change zero (x ∷ xs) d y is = (λ k. is k ∷ xs)
changed_within {X} change (suc place) (x ∷ xs) d y is = ap (λ (ys : List X). x ∷ ys) (changed_within change place xs d y is)

-- the day of a changed hour
changed_day :
    (old new : ℕ → Option ℕ) (hour starts : ℕ) → new hour ≡ with_starts starts (old hour) →
    ((k : ℕ) → k ≢ hour → old k ≡ new k) → day_with (hour % 24) starts (day_by old (hour / 24)) ≡ day_by new (hour / 24)
unfolding hours_of_day
changed_day old new hour starts here same =
    let number = hour / 24 in
    let at : number * 24 + hour % 24 ≡ hour = omega arith in
    let hours = changed_map (with_starts starts) (λ k. old (number * 24 + k)) (λ k. new (number * 24 + k)) 0 24 (hour % 24)
    (hour % 24) (omega arith) (omega arith)
    (ap (λ k. with_starts starts (old k)) at ∙ sym here ∙ ap new (sym at)) (λ k low high other. same _ (λ e. other (omega arith))) in
    λ i. record { number = number; hours = hours i }

-- another day
other_day :
    (old new : ℕ → Option ℕ) (hour number : ℕ) → ((k : ℕ) → k ≢ hour → old k ≡ new k) → number ≢ hour / 24 →
    day_by old number ≡ day_by new number
unfolding hours_of_day
other_day old new hour number same other =
    let hours = same_map (λ k. old (number * 24 + k)) (λ k. new (number * 24 + k)) 0 24
    (λ k low high. same _ (λ e. other (omega arith))) in
    λ i. record { number = number; hours = hours i }

-- a table after more starts in one hour
pub days_with-days_by :
    (old new : ℕ → Option ℕ) (first count hour starts : ℕ) → first ≤ hour / 24 → hour / 24 < first + count →
    new hour ≡ with_starts starts (old hour) → ((k : ℕ) → k ≢ hour → old k ≡ new k) →
    days_with first hour starts (days_by old first count) ≡ days_by new first count
unfolding days_by
days_with-days_by old new first count hour starts from to here same =
    changed_map (day_with (hour % 24) starts) (day_by old) (day_by new) first count (hour / 24 - first) (hour / 24) (omega arith)
    (omega arith) (changed_day old new hour starts here same) (λ k low high other. other_day old new hour k same other)

pub length-days_by : (starts : ℕ → Option ℕ) (first count : ℕ) → length (days_by starts first count) ≡ count
unfolding days_by
length-days_by starts first count = length-map-range_with_len (day_by starts) first count

-- what a table has at an hour
pub found_at-days_by :
    (starts : ℕ → Option ℕ) (first count hour : ℕ) → first ≤ hour / 24 → hour / 24 < first + count →
    found_at first hour (days_by starts first count) ≡ starts hour
unfolding days_by hours_of_day
found_at-days_by starts first count hour from to =
    let number = hour / 24 in
    let at : number * 24 + hour % 24 ≡ hour = omega arith in
    let day = get_or-map-range_with_len (day_by starts) first count (number - first) number no_day (omega arith) (omega arith) in
    let here = get_or-map-range_with_len (λ k. starts (number * 24 + k)) 0 24 (hour % 24) (hour % 24) None (omega arith) (omega arith) in
    ap (λ (day : Day). get_or day.hours (hour % 24) None) day ∙ here ∙ ap starts at
