-- How many elements of a list pass a test, by places: for the copies of a start.
use Rattle.std.proofs.Common.{◌≡◌, ℕ, zero, suc, ◌+◌, ◌<◌, ◌≤◌, Bool, true, cond, List, [], ◌∷◌, ◌++◌, length, take, get_or, Some, inl, inr, refl, ap, ◌∙◌, arith}
use Rattle.std.specs.Prelude.{count_by, slice_get}
use Rattle.std.proofs.lemmas.Bool.{cases_Bool, cases_lt}
use Rattle.std.proofs.lemmas.List.{take-take}
use Rattle.std.proofs.lemmas.Option.{get_or_from_slice_get, slice_get_past}
use Rattle.std.proofs.lemmas.List.Sums.{count_by_more_yes, sum_by-cons, sum_by-take-le, sum_by_more, sum_by_push}

-- one if it is
abbrev pub times : Bool → ℕ
times is = cond is 1 0

pub count_cons : {X : Type 0} (p : X → Bool) (x : X) (xs : List X) → count_by p (x ∷ xs) ≡ times (p x) + count_by p xs
count_cons p x xs = sum_by-cons (λ y. cond (p y) 1 0) x xs

pub count_push : {X : Type 0} (p : X → Bool) (xs : List X) (x : X) → count_by p (xs ++ x ∷ []) ≡ count_by p xs + times (p x)
count_push p xs x = sum_by_push (λ y. cond (p y) 1 0) xs x

-- an element of a list is within it
pub within_list : {X : Type 0} (xs : List X) (place : ℕ) (x : X) → slice_get xs place ≡ Some x → place < length xs
within_list xs place x is = elim (cases_lt place (length xs)) [
  | inl lt ↦ lt
  | inr le ↦ (let none = slice_get_past xs place le in cc)
]

-- with the element at the next place
pub count_next :
    {X : Type 0} (p : X → Bool) (xs : List X) (n : ℕ) (x : X) → slice_get xs n ≡ Some x →
    count_by p (take (n + 1) xs) ≡ count_by p (take n xs) + times (p x)
count_next p xs n x is =
    sum_by_more (λ y. cond (p y) 1 0) xs n x (within_list xs n x is)
    ∙ ap (λ y. count_by p (take n xs) + times (p y)) (get_or_from_slice_get xs n x x is)

-- an element passes and has so many before it that do
abbrev pub HasRank : {X : Type 0} → (X → Bool) → List X → X → (n : ℕ) → Type 0
HasRank p xs d n = (place : ℕ) × (place < length xs) × (p (get_or xs place d) ≡ true) × (count_by p (take place xs) ≡ n)

later :
    {X : Type 0} (p : X → Bool) (x : X) (xs : List X) (d : X) (m n : ℕ) → times (p x) + m ≡ n → HasRank p xs d m →
    HasRank p (x ∷ xs) d n
later p x xs d m n more (place, within, is, count) =
    (suc place, omega arith, is, omega (arith, more, count, count_cons p x (take place xs)))

-- if more pass, there is such an element
pub ranked : {X : Type 0} (p : X → Bool) (xs : List X) (d : X) (n : ℕ) → n < count_by p xs → HasRank p xs d n
ranked p [] d n lt = absurd (omega arith)
ranked p (x ∷ xs) d zero lt = elim (cases_Bool (p x)) [
  | inl is ↦ (0, omega arith, is, refl)
  | inr off ↦
      let here : times (p x) ≡ 0 = ap times off in
      later p x xs d 0 0 (omega (arith, here)) (ranked p xs d 0 (omega (arith, here, count_cons p x xs)))
]
ranked p (x ∷ xs) d (suc n) lt = elim (cases_Bool (p x)) [
  | inl is ↦
      let here : times (p x) ≡ 1 = ap times is in
      later p x xs d n (suc n) (omega (arith, here)) (ranked p xs d n (omega (arith, here, count_cons p x xs)))
  | inr off ↦
      let here : times (p x) ≡ 0 = ap times off in
      later p x xs d (suc n) (suc n) (omega (arith, here)) (ranked p xs d (suc n) (omega (arith, here, count_cons p x xs)))
]

-- no more pass before a place than in the whole list
pub fewer_of_all : {X : Type 0} (p : X → Bool) (xs : List X) (i : ℕ) → count_by p (take i xs) ≤ count_by p xs
fewer_of_all p xs i = sum_by-take-le (λ x. cond (p x) 1 0) xs i

-- no more pass before an earlier place
pub fewer_before : {X : Type 0} (p : X → Bool) (xs : List X) (i j : ℕ) → i ≤ j → count_by p (take i xs) ≤ count_by p (take j xs)
fewer_before p xs i j le =
    omega (arith, sum_by-take-le (λ x. cond (p x) 1 0) (take j xs) i, ap (count_by p) (take-take i j xs le))

-- fewer pass before an earlier place of an element that passes
pub less_before :
    {X : Type 0} (p : X → Bool) (xs : List X) (d : X) (i j : ℕ) → i < j → i < length xs → p (get_or xs i d) ≡ true →
    count_by p (take i xs) < count_by p (take j xs)
less_before p xs d i j lt within is =
    omega (arith, count_by_more_yes p xs i d within is, fewer_before p xs (i + 1) j (omega arith))
