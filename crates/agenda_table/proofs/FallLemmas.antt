-- The dates on which the clock is put back between neighbours, one pair after the other: for the loop of `dates_among`.
use Rattle.std.proofs.Common.{◌≡◌, ℕ, zero, suc, ◌+◌, ◌<◌, ◌≤◌, Bool, true, false, List, [], ◌∷◌, length, drop, get_or, map, refl, ap, sym, ◌∙◌, arith}
use Rattle.std.proofs.lemmas.List.{drop_all}
use Rattle.std.specs.Prelude.{◌||◌, slice_get, Some}
use Rattle.agenda_table.specs.Dates.{is_put_back}
use Rattle.agenda_table.specs.Keys.{falls_after, falls_among, second_of}
use Rattle.agenda_table.proofs.DateLemmas.{not_alone}

-- the clock isn't put back between a time and itself
pub among_first :
    (shown : ℕ → ℕ) (date : ℕ) (keys : List ℕ) (first : ℕ) → slice_get keys 0 ≡ Some first →
    falls_after shown date (second_of first) (map second_of keys) ≡ falls_among shown date (map second_of keys)
among_first shown date [] first is = refl
among_first shown date (key ∷ keys) first is =
    let same : key ≡ first = cc in
    let alone : is_put_back shown date (second_of first) (second_of key) ≡ false =
    ap (λ (k : ℕ). is_put_back shown date (second_of first) (second_of k)) same ∙ not_alone shown date (second_of first) in
    ap (λ (b : Bool). b || falls_after shown date (second_of key) (map second_of keys)) alone

rest_from : (keys : List ℕ) (i d : ℕ) → i < length keys → drop i keys ≡ get_or keys i d ∷ drop (suc i) keys
rest_from [] i d lt = absurd (omega arith)
rest_from (key ∷ keys) zero d lt = refl
rest_from (key ∷ keys) (suc i) d lt = rest_from keys i d (omega arith)

or_both : (a b c : Bool) → ((a || b) || c) ≡ (a || (b || c))
or_both true b c = refl
or_both false b c = refl

-- one more time
pub falls_more :
    (shown : ℕ → ℕ) (date before : ℕ) (keys : List ℕ) (i key : ℕ) (old new whole : Bool) → i < length keys → key ≡ get_or keys i 0 →
    new ≡ (old || is_put_back shown date before (second_of key)) →
    (old || falls_after shown date before (map second_of (drop i keys))) ≡ whole →
    (new || falls_after shown date (second_of key) (map second_of (drop (i + 1) keys))) ≡ whole
falls_more shown date before keys i key old new whole lt here now so_far =
    let one : suc i ≡ i + 1 = omega arith in
    let later = drop (i + 1) keys in
    let rest : drop i keys ≡ key ∷ later =
    rest_from keys i 0 lt ∙ ap (λ k. get_or keys i 0 ∷ drop k keys) one ∙ ap (λ k. k ∷ later) (sym here) in
    ap (λ b. b || falls_after shown date (second_of key) (map second_of later)) now
    ∙ or_both old (is_put_back shown date before (second_of key)) (falls_after shown date (second_of key) (map second_of later))
    ∙ ap (λ (ks : List ℕ). old || falls_after shown date before (map second_of ks)) (sym rest) ∙ so_far

or_none : (a : Bool) → (a || false) ≡ a
or_none true = refl
or_none false = refl

-- no more times
pub falls_end :
    (shown : ℕ → ℕ) (date before : ℕ) (keys : List ℕ) (i : ℕ) (old whole : Bool) → length keys ≤ i →
    (old || falls_after shown date before (map second_of (drop i keys))) ≡ whole → old ≡ whole
falls_end shown date before keys i old whole all so_far =
    sym (or_none old) ∙ ap (λ (ks : List ℕ). old || falls_after shown date before (map second_of ks)) (sym (drop_all i keys all)) ∙ so_far
