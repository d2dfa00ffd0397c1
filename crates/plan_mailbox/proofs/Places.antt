-- Lists by their places: for the calls of `Lanes`, which write to at most one lane, and for lemmas on histories. By
-- induction over the list, or from the library's lemmas. `map_set_same` is used most: a write leaves a mapped list as it
-- was if the function gives the same for the new element as for the old.
use Rattle.std.proofs.Common.{◌≡◌, ℕ, zero, suc, ◌+◌, ◌<◌, Bool, false, cond, eqb, List, [], ◌∷◌, ◌++◌, length, get_or, set, map, replicate, drop, Option, Some, refl, sym, ap, ◌∙◌, arith, add-zero, get_or-set_other}
use Rattle.std.specs.List.{All, list_all, range_with_len, last_or, slice_get}
use Rattle.std.proofs.lemmas.List.{append-nil, get_or-map, map-set, nil_from_length, set-get_or}
use Rattle.std.proofs.lemmas.Option.{slice_get_past}
use Rattle.std.proofs.lemmas.List.Elements.{All-head, All-tail}
use Rattle.std.proofs.lemmas.Grind.{get_or-set_at}
use Rattle.std.proofs.lemmas.Bool.Decides.{nat_tests}

-- the last element of a list with one more
pub last_or_push : {A : Type 0} (o : Option A) (xs : List A) (x : A) → last_or o (xs ++ x ∷ []) ≡ Some x
last_or_push o [] x = refl
last_or_push o (y ∷ ys) x = last_or_push (Some y) ys x

-- all marks of a list pass if the test passes at each of their places
pub all_by_places :
    (xs : List Bool) (p : ℕ → Bool) (a : ℕ) → ((k : ℕ) → get_or xs k false ≡ p (a + k)) →
    list_all (λ x. x) xs ≡ list_all p (range_with_len a (length xs))
all_by_places [] p a h = refl
all_by_places (x ∷ xs) p a h =
    let here : x ≡ p a = h 0 ∙ ap p (add-zero a) in
    let rest : list_all (λ x. x) xs ≡ list_all p (range_with_len (a + 1) (length xs)) = all_by_places xs p (a + 1)
    (λ k. h (suc k) ∙ ap p (omega arith)) in
    cc

-- the element at a place of a list, after a write
pub get_or-set :
    {A : Type 0} (xs : List A) (i : ℕ) (y : A) (k : ℕ) (d : A) → i < length xs →
    get_or (set xs i y) k d ≡ cond (eqb i k) y (get_or xs k d)
get_or-set xs i y k d h = grind (arith, nat_tests, get_or-set_at, get_or-set_other)

-- if all elements of a list give one value, the mapped list repeats that value
pub map_replicate :
    {A B : Type 0} (f : A → B) (y : B) (xs : List A) (n : ℕ) → length xs ≡ n → All (λ x. f x ≡ y) xs → map f xs ≡ replicate n y
map_replicate f y [] n e h = ap (λ k. replicate k y) e
map_replicate f y (x ∷ xs) n e h =
    ap (λ z. z ∷ map f xs) (All-head (λ x. f x ≡ y) x xs h) ∙ ap (λ zs. y ∷ zs)
    (map_replicate f y xs (length xs) refl (All-tail (λ x. f x ≡ y) x xs h)) ∙ ap (λ k. replicate k y) e

-- what a function gives for the element that was read at a place
pub map_read :
    {A B : Type 0} (f : A → B) (xs : List A) (i : ℕ) (y : A) (d : B) → i < length xs → y ≡ get_or xs i y →
    get_or (map f xs) i d ≡ f y
map_read f xs i y d within e = get_or-map f xs i y d within ∙ ap f (sym e)

-- a write that the function does not see
pub map_set_same :
    {A B : Type 0} (f : A → B) (xs : List A) (i : ℕ) (x y : A) → i < length xs → y ≡ get_or xs i y → f x ≡ f y →
    map f (set xs i x) ≡ map f xs
map_set_same f xs i x y within e same = map-set f xs i x ∙ ap (set (map f xs) i) (same ∙ sym (map_read f xs i y (f y) within e))
    ∙ set-get_or (map f xs) i (f y)

-- the element at a place of a list with one more
pub slice_get_before : {A : Type 0} (xs ys : List A) (i : ℕ) → i < length xs → slice_get (xs ++ ys) i ≡ slice_get xs i
slice_get_before [] ys i h = absurd (omega arith)
slice_get_before (x ∷ xs) ys zero h = refl
slice_get_before (x ∷ xs) ys (suc i) h = slice_get_before xs ys i (omega arith)

pub slice_get_last : {A : Type 0} (xs : List A) (x : A) (i : ℕ) → i ≡ length xs → slice_get (xs ++ x ∷ []) i ≡ Some x
slice_get_last [] x zero e = refl
slice_get_last [] x (suc i) e = absurd (omega arith)
slice_get_last (y ∷ xs) x zero e = absurd (omega arith)
slice_get_last (y ∷ xs) x (suc i) e = slice_get_last xs x i (omega arith)

-- the element at a place of the rest of a list
pub slice_get-drop : {A : Type 0} (n : ℕ) (xs : List A) (k : ℕ) → slice_get (drop n xs) k ≡ slice_get xs (n + k)
slice_get-drop zero xs k = ap (slice_get xs) (omega arith)
slice_get-drop (suc n) [] k = slice_get_past [] k (omega arith) ∙ sym (slice_get_past [] (suc n + k) (omega arith))
slice_get-drop (suc n) (x ∷ xs) k = let e : suc (n + k) ≡ suc n + k = omega arith in slice_get-drop n xs k ∙ ap (slice_get (x ∷ xs)) e

-- the elements of a list that a loop went through, when none are left
pub all_yielded : {A : Type 0} (yielded left all : List A) → yielded ++ left ≡ all → length left ≡ 0 → yielded ≡ all
all_yielded yielded left all e none = sym (append-nil yielded) ∙ ap (λ rest. yielded ++ rest) (sym (nil_from_length left none)) ∙ e
