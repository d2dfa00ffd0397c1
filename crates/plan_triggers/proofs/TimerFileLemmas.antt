-- A test of whole lines: for `has_bad_header`.
use Rattle.std.proofs.Common.{◌≡◌, ℕ, Bool, ◌||◌, List, [], ◌∷◌, map, refl, ap}
use Rattle.std.specs.List.{list_any}

pub any_shown :
    {A : Type 0} (v : A → ℕ × List ℕ) (test : ℕ × List ℕ → Bool) (xs : List A) →
    list_any test (map v xs) ≡ list_any (λ x. test (v x)) xs
any_shown v test [] = refl
any_shown v test (x ∷ xs) = ap (λ b. test (v x) || b) (any_shown v test xs)
