-- A list in order is the sorted list of its names.
use Rattle.std.proofs.Common.{◌≡◌, ℕ, suc, ◌+◌, ◌<◌, Bool, true, false, cond, List, [], ◌∷◌, get_or, refl, ap, sym, ◌∙◌, subst, arith}
use Rattle.std.proofs.lemmas.Cmp.{nat_list_cmp_total, tied_itself}
use Rattle.std.proofs.lemmas.List.Sorted.{ranks_by, sum_by-IsPermutation}
use Rattle.std.proofs.lemmas.List.Sums.{sum_by-cons}
use Rattle.std.proofs.lemmas.Map.Text.{is_eq-slice_cmp}
use Rattle.std.proofs.lemmas.Slice.Eq.{bytes_eq-Decides}
use Rattle.std.specs.Cmp.{IsStrictWeakOrder}
use Rattle.std.specs.Cmp.Lexicographic.{slice_cmp}
use Rattle.std.specs.List.{sum_by}
use Rattle.std.specs.List.Sorted.{IsPermutation, IsSorted}
use Rattle.std.specs.Ordering.{is_lt, is_eq, nat_cmp, ordering_reverse}
use Rattle.std.specs.declared.cmp.Ordering.{Ordering}
use Rattle.std.specs.declared.cmp.Ordering.TheVariants.{Less, Equal, Greater}
use Rattle.std.specs.Str.{bytes_eq}
use Rattle.plan_tree.specs.Order.{is_before, placed, sorted}

weak : IsStrictWeakOrder (λ x y. is_before x y)
weak = ranks_by nat_list_cmp_total (λ x. x)

-- each name but the first is not before the one that it follows
abbrev IsUp : List (List ℕ) → Type 0
IsUp [] = Unit {0}
IsUp (x ∷ []) = Unit {0}
IsUp (x ∷ y ∷ more) = (is_before y x ≡ false) × IsUp (y ∷ more)

up_tail : (x : List ℕ) (ys : List (List ℕ)) → IsUp (x ∷ ys) → IsUp ys
up_tail x [] up = tt
up_tail x (y ∷ more) up = up.1

-- what a sort ensures
up_from_sorted : (xs : List (List ℕ)) → IsSorted (slice_cmp nat_cmp) xs → IsUp xs
up_from_sorted [] up = tt
up_from_sorted (x ∷ []) up = tt
up_from_sorted (x ∷ y ∷ more) up = (
  up 0 [] (omega arith) (omega arith),
  up_from_sorted (y ∷ more) (λ k d low inside.
      let next : suc k + 1 ≡ suc (k + 1) = omega arith in
      subst (λ n. is_before (get_or (x ∷ y ∷ more) n d) (get_or (y ∷ more) k d) ≡ false) next (up (suc k) d (omega arith) (omega arith))),
)

-- ---- two lists in order with the same names are the same

not_before_itself : (x : List ℕ) → is_before x x ≡ false
not_before_itself x = ap is_lt (tied_itself nat_list_cmp_total x)

same_name : (x y : List ℕ) → is_before x y ≡ false → is_before y x ≡ false → x ≡ y
same_name x y one other = by_order (slice_cmp nat_cmp x y) refl
  where
    by_order : (o : Ordering) → slice_cmp nat_cmp x y ≡ o → x ≡ y
    by_order Less is = absurd (less (ap is_lt (sym is) ∙ one))
      where
        less : true ≡ false → ⊥
        less e = cc
    by_order Equal is = (bytes_eq-Decides x y).0 (sym (is_eq-slice_cmp x y) ∙ ap is_eq is)
    by_order Greater is = absurd (greater (sym (ap is_lt (nat_list_cmp_total.antisymm y x ∙ ap ordering_reverse is)) ∙ other))
      where
        greater : true ≡ false → ⊥
        greater e = cc

abbrev count : List ℕ → List ℕ → ℕ
count name other = cond (bytes_eq other name) 1 0

count_itself : (x : List ℕ) → count x x ≡ 1
count_itself x = ap (λ b. cond b 1 0) ((bytes_eq-Decides x x).1 refl)

-- the sum of what a function gives of each name
abbrev total : (List ℕ → ℕ) → List (List ℕ) → ℕ
total f [] = 0
total f (x ∷ xs) = f x + total f xs

total_is : (f : List ℕ → ℕ) (xs : List (List ℕ)) → sum_by f xs ≡ total f xs
total_is f [] = refl
total_is f (x ∷ xs) = sum_by-cons f x xs ∙ ap (λ n. f x + n) (total_is f xs)

-- the first of names in order is the least
least_by :
    (n y z : List ℕ) (rest : List (List ℕ)) (b : Bool) → bytes_eq y n ≡ b → is_before z y ≡ false → 0 < total (count n) (y ∷ z ∷ rest) →
    (0 < total (count n) (z ∷ rest) → is_before n z ≡ false) → is_before n y ≡ false
least_by n y z rest true is up some later = subst (λ x. is_before n x ≡ false) (sym ((bytes_eq-Decides y n).0 is)) (not_before_itself n)
least_by n y z rest false is up some later =
    let none : count n y ≡ 0 = ap (λ b. cond b 1 0) is in
    let left : 0 < total (count n) (z ∷ rest) = omega arith in
    weak.chain n z y (later left) up

least_alone : (n y : List ℕ) (b : Bool) → bytes_eq y n ≡ b → 0 < total (count n) (y ∷ []) → is_before n y ≡ false
least_alone n y true is some = subst (λ x. is_before n x ≡ false) (sym ((bytes_eq-Decides y n).0 is)) (not_before_itself n)
least_alone n y false is some = let none : count n y ≡ 0 = ap (λ b. cond b 1 0) is in absurd (omega arith)

least : (n y : List ℕ) (more : List (List ℕ)) → IsUp (y ∷ more) → 0 < total (count n) (y ∷ more) → is_before n y ≡ false
least n y [] up some = least_alone n y (bytes_eq y n) refl some
least n y (z ∷ rest) up some = least_by n y z rest (bytes_eq y n) refl up.0 some (least n z rest up.1)

same : (a b : List (List ℕ)) → IsUp a → IsUp b → ((f : List ℕ → ℕ) → total f a ≡ total f b) → a ≡ b
same [] [] up_a up_b sums = refl
same [] (y ∷ b) up_a up_b sums = let one = sums (λ _. 1) in absurd (omega arith)
same (x ∷ a) [] up_a up_b sums = let one = sums (λ _. 1) in absurd (omega arith)
same (x ∷ a) (y ∷ b) up_a up_b sums =
    let x_counts : 0 < total (count x) (y ∷ b) = omega (arith, sums (count x), count_itself x) in
    let y_counts : 0 < total (count y) (x ∷ a) = omega (arith, sums (count y), count_itself y) in
    let first : x ≡ y = same_name x y (least x y b up_b x_counts) (least y x a up_a y_counts) in
    let rest : a ≡ b = same a b (up_tail x a up_a) (up_tail y b up_b) (λ f. omega (arith, sums f, ap f first)) in
    cc

-- ---- the sorted list

onto : (x y : List ℕ) (ys : List (List ℕ)) → is_before x y ≡ false → IsUp (y ∷ ys) → IsUp (placed x ys) → IsUp (y ∷ placed x ys)
onto x y [] after up rest = (after, tt)
onto x y (z ∷ more) after up rest = by_test (is_before z x) rest
  where
    by_test : (b : Bool) → IsUp (cond b (z ∷ placed x more) (x ∷ z ∷ more)) → IsUp (y ∷ cond b (z ∷ placed x more) (x ∷ z ∷ more))
    by_test true rest = (up.0, rest)
    by_test false rest = (after, rest)

placed_by :
    (x y : List ℕ) (ys : List (List ℕ)) (b : Bool) → is_before y x ≡ b → IsUp (y ∷ ys) → IsUp (placed x ys) →
    IsUp (cond b (y ∷ placed x ys) (x ∷ y ∷ ys))
placed_by x y ys true is up rest = onto x y ys (weak.one_way y x is) up rest
placed_by x y ys false is up rest = (is, up)

placed_up : (x : List ℕ) (ys : List (List ℕ)) → IsUp ys → IsUp (placed x ys)
placed_up x [] up = tt
placed_up x (y ∷ ys) up = placed_by x y ys (is_before y x) refl up (placed_up x ys (up_tail y ys up))

sorted_up : (xs : List (List ℕ)) → IsUp (sorted xs)
sorted_up [] = tt
sorted_up (x ∷ xs) = placed_up x (sorted xs) (sorted_up xs)

total_by :
    (f : List ℕ → ℕ) (x y : List ℕ) (ys : List (List ℕ)) (b : Bool) → total f (placed x ys) ≡ f x + total f ys →
    total f (cond b (y ∷ placed x ys) (x ∷ y ∷ ys)) ≡ f x + (f y + total f ys)
total_by f x y ys true rest = omega arith
total_by f x y ys false rest = refl

placed_total : (f : List ℕ → ℕ) (x : List ℕ) (ys : List (List ℕ)) → total f (placed x ys) ≡ f x + total f ys
placed_total f x [] = refl
placed_total f x (y ∷ ys) = total_by f x y ys (is_before y x) (placed_total f x ys)

sorted_total : (f : List ℕ → ℕ) (xs : List (List ℕ)) → total f (sorted xs) ≡ total f xs
sorted_total f [] = refl
sorted_total f (x ∷ xs) = placed_total f x (sorted xs) ∙ ap (λ n. f x + n) (sorted_total f xs)

-- a list in order that has the names of another is that list, sorted
pub is_sorted : (xs ys : List (List ℕ)) → IsPermutation xs ys → IsSorted (slice_cmp nat_cmp) ys → ys ≡ sorted xs
is_sorted xs ys has up = same ys (sorted xs) (up_from_sorted ys up) (sorted_up xs) (λ f.
    sym (total_is f ys) ∙ sum_by-IsPermutation f xs ys has ∙ total_is f xs ∙ sym (sorted_total f xs))
