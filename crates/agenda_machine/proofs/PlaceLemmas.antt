-- A list whose elements are changed in place, one after the other.
use Rattle.std.proofs.Common.{◌≡◌, ℕ, zero, suc, ◌+◌, ◌<◌, List, [], ◌∷◌, ◌++◌, length, map, take, drop, set, get_or, refl, ap, arith}

one_more :
    {X : Type 0} (f : X → X) (xs : List X) (i : ℕ) (d : X) → i < length xs →
    set (map f (take i xs) ++ drop i xs) i (f (get_or (map f (take i xs) ++ drop i xs) i d)) ≡ map f (take (suc i) xs) ++ drop (suc i) xs
one_more f [] i d inside = absurd (omega (arith, inside))
one_more f (x ∷ xs) zero d inside = refl
one_more f (x ∷ xs) (suc i) d inside = ap (λ more. f x ∷ more) (one_more f xs i d (omega (arith, inside)))

-- a turn of the loop
pub changed_more :
    {X : Type 0} (f : X → X) (xs ys : List X) (i : ℕ) (y d : X) → ys ≡ map f (take i xs) ++ drop i xs → i < length xs →
    y ≡ f (get_or ys i d) → set ys i y ≡ map f (take (i + 1) xs) ++ drop (i + 1) xs
changed_more f xs ys i y d so_far inside new =
    let next : i + 1 ≡ suc i = omega arith in
    let more = one_more f xs i d inside in
    rw (new, so_far, next) more
