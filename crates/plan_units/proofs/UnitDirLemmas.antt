-- The parts of a text that are cut at a place, and those at the places before it.
use Rattle.std.proofs.Common.{◌≡◌, ◌≢◌, ℕ, zero, suc, ◌+◌, ◌-◌, ◌<◌, ◌≤◌, ◌&&◌, ◌==◌, nat_lt, true, cond, List, [], ◌∷◌, ◌++◌, take, slice_index, slice_range, append_assoc, append-nil, refl, ap, sym, ◌∙◌, arith}
use Rattle.std.proofs.lemmas.Bool.Decides.{nat_tests}
use Rattle.plan_units.specs.UnitDirs.{cuts_below}

-- what one place adds
abbrev pub cut_at_place : List ℕ → ℕ → List (List ℕ)
cut_at_place text place = cond (nat_lt 0 place && (slice_index text place == 45)) (take (place + 1) text ∷ []) []

pub cuts_next :
    (text : List ℕ) (place : ℕ) → place ≢ 0 → cuts_below text place ≡ cut_at_place text (place - 1) ++ cuts_below text (place - 1)
unfolding cuts_below
cuts_next text zero some = absurd (some refl)
cuts_next text (suc n) some =
    let less : suc n - 1 ≡ n = omega arith in
    ap (λ m. cut_at_place text m ++ cuts_below text m) (sym less)

-- the text is cut at the next place
pub cut_taken :
    (text : List ℕ) (place : ℕ) (front whole : List (List ℕ)) (cut : List ℕ) → place ≢ 0 → 0 < place - 1 →
    slice_index text (place - 1) ≡ 45 → cut ≡ slice_range text 0 (place - 1 + 1) → front ++ cuts_below text place ≡ whole →
    (front ++ cut ∷ []) ++ cuts_below text (place - 1) ≡ whole
cut_taken text place front whole cut some inside dash is left =
    let here : (nat_lt 0 (place - 1) && (slice_index text (place - 1) == 45)) ≡ true = grind (arith, nat_tests) in
    let size : place - 1 + 1 - 0 ≡ place - 1 + 1 = omega arith in
    let one = ap (λ b. cond b (take (place - 1 + 1) text ∷ []) []) here in
    append_assoc front (cut ∷ []) (cuts_below text (place - 1))
    ∙ ap (λ c. front ++ c ∷ cuts_below text (place - 1)) (is ∙ ap (λ n. take n text) size)
    ∙ ap (λ xs. front ++ (xs ++ cuts_below text (place - 1))) (sym one)
    ∙ ap (λ xs. front ++ xs) (sym (cuts_next text place some))
    ∙ left

-- no place is left
pub cuts_done :
    (text : List ℕ) (place : ℕ) (front whole : List (List ℕ)) → place ≤ 0 → front ++ cuts_below text place ≡ whole → front ≡ whole
unfolding cuts_below
cuts_done text place front whole none left =
    let start : place ≡ 0 = omega arith in
    sym (append-nil front) ∙ ap (λ n. front ++ cuts_below text n) (sym start) ∙ left
