-- The widths of columns after one more row.
use Rattle.std.proofs.Common.{◌≡◌, ℕ, zero, suc, ◌<◌, List, [], ◌∷◌, ◌++◌, get_or, max, arith, ap, ◌∙◌, sym}
use Rattle.unicode_width.specs.Width.{str_width}
use Rattle.agenda_table.specs.Layout.{width, widest}

pub widest_more :
    (rows : List (List (List ℕ))) (row : List (List ℕ)) (place : ℕ) → widest (rows ++ row ∷ []) place
    ≡ max (widest rows place) (width (get_or row place []))
unfolding widest
widest_more [] row place = omega arith
widest_more (first ∷ rows) row place =
    let later = widest_more rows row place in
    rw later (omega arith)

-- the width of the column at a place, after one more row
pub wider_at :
    (rows : List (List (List ℕ))) (row : List (List ℕ)) (place before after : ℕ) → before ≡ widest rows place →
    after ≡ max before (width (get_or row place [])) → after ≡ widest (rows ++ row ∷ []) place
wider_at rows row place before after was is =
    is ∙ ap (λ (n : ℕ). max n (width (get_or row place []))) was ∙ sym (widest_more rows row place)

-- a fact on each of six places
pub six_places :
    (P : ℕ → Type 0) → P 0 → P 1 → P 2 → P 3 → P 4 → P 5 → (place : ℕ) → place < 6 → P place
six_places P a b c d e f zero few = a
six_places P a b c d e f (suc zero) few = b
six_places P a b c d e f (suc (suc zero)) few = c
six_places P a b c d e f (suc (suc (suc zero))) few = d
six_places P a b c d e f (suc (suc (suc (suc zero)))) few = e
six_places P a b c d e f (suc (suc (suc (suc (suc zero))))) few = f
six_places P a b c d e f (suc (suc (suc (suc (suc (suc n)))))) few = absurd (omega arith)

-- no text takes no columns
pub width_none : (text : List ℕ) → text ≡ [] → width text ≡ 0
unfolding str_width
width_none text none = ap width none
