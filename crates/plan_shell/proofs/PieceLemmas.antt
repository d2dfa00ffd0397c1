-- The last piece, one byte longer.
use Rattle.std.proofs.Common.{◌≡◌, ℕ, ◌+◌, ◌-◌, ◌<◌, ◌≤◌, ◌∙◌, ap, List, [], ◌∷◌, ◌++◌, length, take, drop, get_or, arith, length-drop}
use Rattle.std.proofs.lemmas.List.{take_more, get_or-drop}
use Rattle.std.specs.List.{slice_index, slice_range}

-- a part of a list that ends one item later
pub extended : (xs : List ℕ) (a i : ℕ) → a ≤ i → i < length xs → slice_range xs a (i + 1) ≡ slice_range xs a i ++ slice_index xs i ∷ []
extended xs a i begun within =
    let longer : i + 1 - a ≡ (i - a) + 1 = omega arith in
    let inside : i - a < length (drop a xs) = omega (arith, length-drop a xs) in
    let there : a + (i - a) ≡ i = omega arith in
    ap (λ n. take n (drop a xs)) longer ∙ take_more (drop a xs) (i - a) 0 inside
    ∙ ap (λ (y : ℕ). take (i - a) (drop a xs) ++ y ∷ []) (get_or-drop a xs (i - a) 0 ∙ ap (λ n. get_or xs n 0) there)
