-- The objects of hours, one after the other, and sums of rows.
use Rattle.std.proofs.Common.{◌≡◌, ℕ, zero, suc, ◌+◌, ◌<◌, ◌≤◌, List, [], ◌∷◌, ◌++◌, length, get_or, map, take, Option, None, Some, refl, ap, sym, ◌∙◌, arith, append-nil, take_all}
use Rattle.std.specs.List.{enumerate_from, flat_map}
use Rattle.std.proofs.lemmas.List.{take_more}
use Rattle.std.proofs.lemmas.List.Concat.{flat_map-append}
use Rattle.std.proofs.lemmas.List.FromFn.{get_or-enumerate_from, length-enumerate_from}

-- the texts of the hours so far, and that of the next hour
pub objects_more :
    (f : ℕ × Option ℕ → List ℕ) (hours : List (Option ℕ)) (i : ℕ) (d : Option ℕ) → i < length hours →
    flat_map f (take i (enumerate_from 0 hours)) ++ f (i, get_or hours i d) ≡ flat_map f (take (i + 1) (enumerate_from 0 hours))
objects_more f hours i d lt =
    let all = enumerate_from 0 hours in
    let len : length all ≡ length hours = length-enumerate_from 0 hours in
    let here : get_or all i (0, d) ≡ (i, get_or hours i d) =
    get_or-enumerate_from 0 hours i (0, d) lt ∙ (let e : 0 + i ≡ i = omega arith in λ k. (e k, get_or hours i d)) in
    let more : take (i + 1) all ≡ take i all ++ get_or all i (0, d) ∷ [] = take_more all i (0, d) (omega (arith, len)) in
    sym (ap (flat_map f) more ∙ flat_map-append f (take i all) (get_or all i (0, d) ∷ [])
    ∙ ap (λ text. flat_map f (take i all) ++ text) (append-nil (f (get_or all i (0, d))) ∙ ap f here))

-- all hours
pub objects_all : (hours : List (Option ℕ)) (i : ℕ) → length hours ≤ i → take i (enumerate_from 0 hours) ≡ enumerate_from 0 hours
objects_all hours i all = take_all i (enumerate_from 0 hours) (omega (arith, length-enumerate_from 0 hours))
