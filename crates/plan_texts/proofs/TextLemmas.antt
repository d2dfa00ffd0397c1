-- How a cut is found from left to right.
-- For the loop of `cut`: a place that is passed, the place of the mark, and the end (`cut_more`,
-- `cut_found`, `cut_all`). `cut_at` is unfolded at one byte; `after_text` puts the passed bytes before the cut.
use Rattle.std.proofs.Common.{◌≡◌, ℕ, ◌+◌, ◌<◌, ◌≤◌, true, false, nat_eq, List, [], ◌∷◌, ◌++◌, length, take, drop, get_or, Option, Some, None, refl, ap, sym, ◌∙◌, append_assoc, append-nil, take-append-drop}
use Rattle.std.proofs.lemmas.Bool.Decides.{Decides-eqb}
use Rattle.std.proofs.lemmas.List.{take_more, drop_more, drop_all}
use Rattle.std.proofs.lemmas.Slice.Eq.{starts_is}
use Rattle.std.specs.List.{starts_with}
use Rattle.plan_texts.specs.Text.{cut_at, after_text, stands_at}
use Rattle.std.proofs.Common.{arith}
use Rattle.std.proofs.lemmas.Bool.Decides.{nat_tests}

after_text-after_text :
    (front more : List ℕ) (cut : Option (List ℕ × List ℕ)) → after_text front (after_text more cut) ≡ after_text (front ++ more) cut
after_text-after_text front more None = refl
after_text-after_text front more (Some parts) = ap (λ first. Some (first, parts.1)) (sym (append_assoc front more parts.0))

cut_at-here :
    (mark : List ℕ) (b : ℕ) (bs : List ℕ) → starts_with nat_eq (b ∷ bs) mark ≡ true →
    cut_at mark (b ∷ bs) ≡ Some ([], drop (length mark) (b ∷ bs))
unfolding cut_at
cut_at-here mark b bs here = rw here refl

cut_at-later :
    (mark : List ℕ) (b : ℕ) (bs : List ℕ) → starts_with nat_eq (b ∷ bs) mark ≡ false →
    cut_at mark (b ∷ bs) ≡ after_text (b ∷ []) (cut_at mark bs)
unfolding cut_at
cut_at-later mark b bs later = rw later refl

cut_at-empty : (mark : List ℕ) → cut_at mark [] ≡ None
unfolding cut_at
cut_at-empty mark = refl

-- a place is passed if the mark isn't there
pub cut_more :
    (mark text : List ℕ) (at : ℕ) → at < length text → starts_with nat_eq (drop at text) mark ≡ false →
    cut_at mark text ≡ after_text (take at text) (cut_at mark (drop at text)) →
    cut_at mark text ≡ after_text (take (at + 1) text) (cut_at mark (drop (at + 1) text))
cut_more mark text at inside later so_far =
    let split = drop_more text at 0 inside in
    let rest = drop (at + 1) text in
    so_far
    ∙ ap (λ tail. after_text (take at text) (cut_at mark tail)) split
    ∙ ap (after_text (take at text))
    (cut_at-later mark (get_or text at 0) rest (ap (λ tail. starts_with nat_eq tail mark) (sym split) ∙ later))
    ∙ after_text-after_text (take at text) (get_or text at 0 ∷ []) (cut_at mark rest)
    ∙ ap (λ front. after_text front (cut_at mark rest)) (sym (take_more text at 0 inside))

-- if the mark is there, the text is cut there
pub cut_found :
    (mark text : List ℕ) (at : ℕ) → at < length text → starts_with nat_eq (drop at text) mark ≡ true →
    cut_at mark text ≡ after_text (take at text) (cut_at mark (drop at text)) →
    cut_at mark text ≡ Some (take at text, drop (length mark) (drop at text))
cut_found mark text at inside here so_far =
    let split = drop_more text at 0 inside in
    let rest = drop (at + 1) text in
    so_far
    ∙ ap (λ tail. after_text (take at text) (cut_at mark tail)) split
    ∙ ap (after_text (take at text))
    (cut_at-here mark (get_or text at 0) rest (ap (λ tail. starts_with nat_eq tail mark) (sym split) ∙ here))
    ∙ ap (λ front. Some (front, drop (length mark) (get_or text at 0 ∷ rest))) (append-nil (take at text))
    ∙ ap (λ tail. Some (take at text, drop (length mark) tail)) (sym split)

-- after the last place: the mark was not found
pub cut_all :
    (mark text : List ℕ) (at : ℕ) → length text ≤ at → cut_at mark text ≡ after_text (take at text) (cut_at mark (drop at text)) →
    cut_at mark text ≡ None
cut_all mark text at past so_far = grind (arith, nat_tests, drop_all, cut_at-empty)

-- a text with a mark at a place: what comes before it, the mark, and what follows
pub again :
    (mark text : List ℕ) (at : ℕ) → stands_at mark text at ≡ true →
    text ≡ take at text ++ (mark ++ drop (length mark) (drop at text))
again mark text at here = grind (arith, nat_tests, take-append-drop, starts_is, Decides-eqb)
