-- How pairs are added.
-- For the loop of `sum_of_pairs`. Its invariant adds the pairs that are left to the sum so far (`sum_with`): a pair goes from
-- those to the sum (`pair_step`), and a sum that is too large stays so (`past_infinity`).
use Rattle.std.proofs.Common.{◌≡◌, ℕ, zero, suc, ◌+◌, ◌<◌, ◌≤◌, true, false, ◌==◌, List, [], ◌∷◌, length, Option, Some, None, refl, ap, sym, arith, add_assoc, add-zero}
use Rattle.std.proofs.lemmas.Bool.{eqb-true, le-ltb, lt-ltb, true≢false}
use Rattle.plan_spans.specs.Spans.{◌>>=◌, pair_in_front, sum_of_pairs, infinity, finite}

-- a sum so far with the pairs that a text consists of
abbrev pub sum_with : ℕ → List ℕ → ℕ → Option ℕ
sum_with before text most = sum_of_pairs text most >>= (λ sum. finite (before + sum))

add_later : (before value : ℕ) (left : Option ℕ) →
    ((left >>= (λ sum. Some (value + sum))) >>= (λ sum. finite (before + sum))) ≡ (left >>= (λ sum. finite (before + value + sum)))
add_later before value None = refl
add_later before value (Some sum) = ap finite (sym (add_assoc before value sum))

-- a text without a pair at its start
pub no_pair : (before : ℕ) (text : List ℕ) (most : ℕ) → (length text == 0) ≡ false → pair_in_front text ≡ None →
    sum_with before text most ≡ None
unfolding sum_of_pairs
no_pair before [] most some none = absurd (true≢false some)
no_pair before (b ∷ bs) zero some none = refl
no_pair before (b ∷ bs) (suc most) some none = rw none refl

-- a pair at the start of a text is added to the sum
pub pair_step :
    (before : ℕ) (text : List ℕ) (most value : ℕ) (rest : List ℕ) → length text ≤ most →
    pair_in_front text ≡ Some (value, rest) → length rest < length text →
    (left : ℕ) × (length rest ≤ left) × (sum_with before text most ≡ sum_with (before + value) rest left)
unfolding sum_of_pairs
pair_step before [] most value rest enough is shorter = absurd (omega arith)
pair_step before (b ∷ bs) zero value rest enough is shorter = absurd (omega arith)
pair_step before (b ∷ bs) (suc most) value rest enough is shorter =
    (most, omega arith, rw is (add_later before value (sum_of_pairs rest most)))

too_large : (before : ℕ) (left : Option ℕ) → infinity ≤ before → (left >>= (λ sum. finite (before + sum))) ≡ None
too_large before None large = refl
too_large before (Some sum) large =
    let past : infinity ≤ before + sum = omega arith in
    rw (le-ltb (before + sum) infinity past) refl

-- a sum so far that is too large stays too large
pub past_infinity : (before : ℕ) (text : List ℕ) (most : ℕ) → infinity ≤ before → sum_with before text most ≡ None
past_infinity before text most large = too_large before (sum_of_pairs text most) large

-- after the last pair
pub sum_with-end : (before : ℕ) (text : List ℕ) (most : ℕ) → (length text == 0) ≡ true → sum_with before text most ≡ finite before
unfolding sum_of_pairs
sum_with-end before [] most none = ap finite (add-zero before)
sum_with-end before (b ∷ bs) most none = absurd (omega (arith, eqb-true _ _ none))

-- a sum that is small enough
pub finite-small : (sum : ℕ) → sum < infinity → finite sum ≡ Some sum
finite-small sum small = rw (lt-ltb sum infinity small) refl
