-- Lists of entries: what they weigh, and when one is the other in order. For `Collector::finish`, by HoldsLemmas.antt.
-- The aim is `Ascends-unique`, by induction over both lists. The hard part is that they start with the same entry: weigh
-- 1 what comes before y, the first of one list. That list weighs 0, since it ascends. So the other does, and its first
-- isn't before y.
use Rattle.std.proofs.Common.{◌≡◌, ℕ, suc, ◌+◌, Bool, false, cond, List, [], ◌∷◌, ◌++◌, length, refl, ap, sym, ◌∙◌, arith}
use Rattle.std.specs.Prelude.{IsPermutation}
use Rattle.std.specs.List.{sum_by}
use Rattle.std.specs.List.Sorted.{IsSorted}
use Rattle.std.specs.Ordering.{is_lt, nat_cmp, ordering_then}
use Rattle.std.proofs.lemmas.Bool.Decides.{nat_tests}
use Rattle.std.proofs.lemmas.List.Sums.{sum_by-cons}
use Rattle.std.proofs.lemmas.List.Sorted.{sum_by-IsPermutation}
use Rattle.plan_collect.specs.Collecting.{weigh, SameStarts}
use Rattle.std.proofs.lemmas.Grind.{common_steps}

pub weigh-append : (weight : ℕ × ℕ → ℕ) (xs ys : List (ℕ × ℕ)) → weigh weight (xs ++ ys) ≡ weigh weight xs + weigh weight ys
weigh-append weight [] ys = omega arith
weigh-append weight (x ∷ xs) ys = omega (arith, weigh-append weight xs ys)

-- each entry weighs one
pub weigh-length : (xs : List (ℕ × ℕ)) → weigh (λ _. 1) xs ≡ length xs
weigh-length [] = refl
weigh-length (x ∷ xs) = omega (arith, weigh-length xs)

pub weigh-sum_by : (weight : ℕ × ℕ → ℕ) (xs : List (ℕ × ℕ)) → weigh weight xs ≡ sum_by weight xs
weigh-sum_by weight [] = refl
weigh-sum_by weight (x ∷ xs) = ap (λ n. weight x + n) (weigh-sum_by weight xs) ∙ sym (sum_by-cons weight x xs)

-- a sort keeps the entries
pub SameStarts-permutation : (xs ys zs : List (ℕ × ℕ)) → IsPermutation xs ys → SameStarts xs zs → SameStarts ys zs
SameStarts-permutation xs ys zs moved same = grind (arith, nat_tests, weigh-sum_by, sum_by-IsPermutation)

-- lists with the same entries have the same length
pub SameStarts-length : (xs ys : List (ℕ × ℕ)) → SameStarts xs ys → length xs ≡ length ys
SameStarts-length xs ys same = sym (weigh-length xs) ∙ same (λ _. 1) ∙ weigh-length ys

-- an entry comes before another: at an earlier second, or then by its job
abbrev pub is_before : ℕ × ℕ → ℕ × ℕ → Bool
is_before x y = is_lt (ordering_then (nat_cmp x.0 y.0) (nat_cmp x.1 y.1))

-- no entry of the list comes before this one
abbrev pub NoneBefore : ℕ × ℕ → List (ℕ × ℕ) → Type 0
NoneBefore x [] = Unit {0}
NoneBefore x (y ∷ ys) = (is_before y x ≡ false) × NoneBefore x ys

-- no entry comes before one that precedes it in the list
abbrev pub Ascends : List (ℕ × ℕ) → Type 0
Ascends [] = Unit {0}
Ascends (x ∷ xs) = NoneBefore x xs × Ascends xs

NoneBefore-trans : (x y : ℕ × ℕ) (ys : List (ℕ × ℕ)) → is_before y x ≡ false → NoneBefore y ys → NoneBefore x ys
NoneBefore-trans x y [] first none = tt
NoneBefore-trans x y (z ∷ zs) first (here, none) = (grind (arith, nat_tests), NoneBefore-trans x y zs first none)

-- a sorted list ascends
pub Ascends-sorted : (xs : List (ℕ × ℕ)) → IsSorted (λ x y. ordering_then (nat_cmp x.0 y.0) (nat_cmp x.1 y.1)) xs → Ascends xs
Ascends-sorted [] sorted = tt
Ascends-sorted (x ∷ []) sorted = (tt, tt)
Ascends-sorted (x ∷ y ∷ ys) sorted =
    let later : Ascends (y ∷ ys) = Ascends-sorted (y ∷ ys)
    (λ k d low high. (let place : suc k + 1 ≡ suc (k + 1) = omega arith in rw place at
    (sorted (suc k) d (omega arith) (omega arith)))) in
    let first : is_before y x ≡ false = sorted 0 x (omega arith) (omega arith) in
    ((first, NoneBefore-trans x y ys first later.0), later)

-- entries that don't come before x weigh nothing if only those before x weigh one
weigh-none : (x : ℕ × ℕ) (ys : List (ℕ × ℕ)) → NoneBefore x ys → weigh (λ y. cond (is_before y x) 1 0) ys ≡ 0
weigh-none x [] none = refl
weigh-none x (y ∷ ys) (here, none) = let rest = weigh-none x ys none in rw here (omega arith)

-- the first entry of one list does not come before that of the other
first_not_before : (x y : ℕ × ℕ) (xs ys : List (ℕ × ℕ)) → SameStarts (x ∷ xs) (y ∷ ys) → Ascends (y ∷ ys) → is_before x y ≡ false
first_not_before x y xs ys same (none, later) =
    let itself : is_before y y ≡ false = grind (arith, nat_tests) in
    let all : weigh (λ z. cond (is_before z y) 1 0) (y ∷ ys) ≡ 0 = weigh-none y (y ∷ ys) (itself, none) in
    let sum : cond (is_before x y) 1 0 + weigh (λ z. cond (is_before z y) 1 0) xs ≡ 0 = same (λ z. cond (is_before z y) 1 0) ∙ all in
    grind arith

neither_before : (x y : ℕ × ℕ) → is_before x y ≡ false → is_before y x ≡ false → x ≡ y
neither_before (a, j) (b, k) p q = grind (arith, nat_tests, common_steps)

-- the same entries ascend in only one order
pub Ascends-unique : (xs ys : List (ℕ × ℕ)) → SameStarts xs ys → Ascends xs → Ascends ys → xs ≡ ys
Ascends-unique [] [] same up rises = refl
Ascends-unique [] (y ∷ ys) same up rises = let none = SameStarts-length [] (y ∷ ys) same in absurd (omega arith)
Ascends-unique (x ∷ xs) [] same up rises = let none = SameStarts-length (x ∷ xs) [] same in absurd (omega arith)
Ascends-unique (x ∷ xs) (y ∷ ys) same up rises =
    let first : x ≡ y = neither_before x y (first_not_before x y xs ys same rises)
    (first_not_before y x ys xs (λ weight. sym (same weight)) up) in
    let rest : SameStarts xs ys = λ weight. (let both = same weight in let heads : weight x ≡ weight y = ap weight first in omega arith) in
    let later : xs ≡ ys = Ascends-unique xs ys rest up.1 rises.1 in
    λ i. first i ∷ later i
