-- The starts of a rule after a time, one after the other: for the loop of `next_starts`.
use Rattle.std.proofs.Common.{◌≡◌, ℕ, ◌+◌, ◌<◌, ◌≤◌, List, [], ◌∷◌, ◌++◌, length, take, drop, ap, sym, ◌∙◌, arith, take_all, get_or, length-drop}
use Rattle.std.proofs.lemmas.List.{drop_more, take_more}

-- one more start
pub listed_more :
    (all later : List ℕ) (k n : ℕ) → drop k all ≡ n ∷ later →
    (take k all ++ n ∷ [] ≡ take (k + 1) all) × (later ≡ drop (k + 1) all) × (k + 1 ≤ length all)
listed_more all later k n is =
    let inside : k < length all = omega (arith, length-drop k all, ap length is) in
    let left : n ∷ later ≡ get_or all k n ∷ drop (k + 1) all = sym is ∙ drop_more all k n inside in
    let first : n ≡ get_or all k n = cc in
    let rest : later ≡ drop (k + 1) all = cc in
    (ap (λ x. take k all ++ x ∷ []) first ∙ sym (take_more all k n inside), rest, omega arith)

-- all starts, which are fewer than requested
pub lists_fewer : (all : List ℕ) (k count : ℕ) → k < count → drop k all ≡ [] → take k all ≡ take count all
lists_fewer all k count few none =
    let long : length all ≤ k = omega (arith, length-drop k all, ap length none) in
    take_all k all long ∙ sym (take_all count all (omega (arith, long)))
