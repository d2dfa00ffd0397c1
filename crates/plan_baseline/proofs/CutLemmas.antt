-- A text is cut at its first such byte, as `memchr` finds it.
use Rattle.std.proofs.Common.{◌≡◌, ℕ, zero, suc, ◌+◌, ◌<◌, ◌==◌, true, false, true≢false, List, [], ◌∷◌, ◌++◌, length, take, drop, Option, None, Some, ap, arith, refl, sym, ◌∙◌}
use Rattle.std.proofs.lemmas.Bool.Decides.{nat_tests}
use Rattle.std.proofs.lemmas.Option.{same_Some}
use Rattle.memchr.specs.Find.{Nowhere, Passes, is_byte}
use Rattle.plan_texts.specs.Text.{after_text, cut_at}
use Rattle.plan_baseline.specs.ReadBack.{HasNone}

-- a text whose first byte isn't the mark is cut after that byte
pub cut_later :
    (mark b : ℕ) (bytes : List ℕ) → (is_byte mark b ≡ true → ⊥) → cut_at (mark ∷ []) (b ∷ bytes) ≡ after_text (b ∷ []) (cut_at (mark ∷ []) bytes)
unfolding cut_at
cut_later mark b bytes other = grind (arith, nat_tests)

pub cut_here : (mark b : ℕ) (bytes : List ℕ) → is_byte mark b ≡ true → cut_at (mark ∷ []) (b ∷ bytes) ≡ Some ([], bytes)
unfolding cut_at
cut_here mark b bytes is = grind (arith, nat_tests)

pub cut_nowhere :
    (mark : ℕ) (text : List ℕ) → Nowhere (Passes (is_byte mark) text) 0 (length text) → cut_at (mark ∷ []) text ≡ None
unfolding cut_at
cut_nowhere mark [] none = refl
cut_nowhere mark (b ∷ bytes) none =
    cut_later mark b bytes (none 0 (omega arith) (omega arith))
    ∙ ap (after_text (b ∷ [])) (cut_nowhere mark bytes (λ k low high. none (suc k) (omega arith) (omega arith)))

pub cut_at_place :
    (mark : ℕ) (text : List ℕ) (place : ℕ) → place < length text → Nowhere (Passes (is_byte mark) text) 0 place →
    Passes (is_byte mark) text place → cut_at (mark ∷ []) text ≡ Some (take place text, drop (place + 1) text)
cut_at_place mark [] place short none is = absurd (omega arith)
cut_at_place mark (b ∷ bytes) zero short none is = cut_here mark b bytes is
cut_at_place mark (b ∷ bytes) (suc place) short none is =
    let next : suc (place + 1) ≡ suc place + 1 = omega arith in
    cut_later mark b bytes (none 0 (omega arith) (omega arith))
    ∙ ap (after_text (b ∷ [])) (cut_at_place mark bytes place (omega arith) (λ k low high. none (suc k) (omega arith) (omega arith)) is)
    ∙ ap (λ k. Some (b ∷ take place bytes, drop k (b ∷ bytes))) next

-- a text is cut at a mark that isn't before
pub cut_first : (mark : ℕ) (a b : List ℕ) → HasNone mark a → cut_at (mark ∷ []) (a ++ mark ∷ b) ≡ Some (a, b)
cut_first mark [] b none = cut_here mark mark b (grind (arith, nat_tests))
cut_first mark (x ∷ a) b none =
    let here : (x == mark) ≡ false = grind (arith, nat_tests) in
    let later : HasNone mark a = grind (arith, nat_tests) in
    cut_later mark x (a ++ mark ∷ b) (λ is. true≢false (sym is ∙ here)) ∙ ap (after_text (x ∷ [])) (cut_first mark a b later)

after_again :
    (mark b : ℕ) (bytes : List ℕ) (cut : Option (List ℕ × List ℕ)) (front back : List ℕ) →
    ((f g : List ℕ) → cut ≡ Some (f, g) → bytes ≡ f ++ mark ∷ g) → after_text (b ∷ []) cut ≡ Some (front, back) → b ∷ bytes ≡ front ++ mark ∷ back
after_again mark b bytes None front back more is = absurd (cc is)
after_again mark b bytes (Some (f, g)) front back more is =
    let parts = same_Some _ _ is in
    ap (λ t. b ∷ t) (more f g refl) ∙ ap (λ p. p.0 ++ mark ∷ p.1) parts

-- a text that is cut at a byte is what comes before it, the byte, and what comes after it
pub cut_again : (mark : ℕ) (text front back : List ℕ) → cut_at (mark ∷ []) text ≡ Some (front, back) → text ≡ front ++ mark ∷ back
unfolding cut_at
cut_again mark [] front back is = absurd (cc is)
cut_again mark (b ∷ bytes) front back is = grind (arith, nat_tests, after_again, cut_again mark bytes)
