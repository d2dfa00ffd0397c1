-- The first bit that is 1 in a row of words is the smallest member of a set.
-- For `first_from` and `first_of_later_words`. The skipped bits are those up to a position in a word. From there on, the trailing
-- zeros of that word give its first bit, which is the smallest.
use Rattle.std.proofs.Common.{◌≡◌, ℕ, ◌+◌, ◌-◌, ◌*◌, ◌/◌, ◌%◌, ◌^◌, ◌<◌, ◌≤◌, true, false, ◌==◌, List, get_or, Option, Some, ap, subst, ◌∙◌, arith, inl, inr}
use Rattle.std.proofs.lemmas.Bool.Decides.{nat_tests}
use Rattle.std.specs.Int.{bit_at, trailing_zeros, w128}
use Rattle.std.proofs.lemmas.Bool.{cases_lt}
use Rattle.plan_sets.specs.Values.{Values, values_at, IsLeastFrom, NoValueBetween}
use Rattle.plan_sets.specs.Words.{is_marked, word_bits, word_count}
use Rattle.plan_sets.proofs.ValuesLemmas.{has_value-distance, no_value_before}
use Rattle.plan_sets.proofs.WordsLemmas.{IsFirstBit, IsFirstBit-trailing_zeros}

-- a bit, by its word and its position in that word
marked_in_word :
    (words : List ℕ) (k bit j : ℕ) → j / word_bits ≡ k → j % word_bits ≡ bit →
    is_marked words j ≡ (bit_at (get_or words k 0) bit == 1)
marked_in_word words k bit j word place = grind (arith, nat_tests)

-- the first bit of a word from a position on, if no bit from v up to that position is 1
pub least_of_word :
    (words : List ℕ) (lo : ℕ) (s : Values) (v k below bit : ℕ) → values_at lo (is_marked words) ≡ s → k < word_count →
    v ≤ lo + (k * word_bits + below) → IsFirstBit (get_or words k 0) below bit →
    ((j : ℕ) → v - lo ≤ j → j < k * word_bits + below → is_marked words j ≡ false) →
    IsLeastFrom s v (Some (lo + (k * word_bits + bit)))
least_of_word words lo s v k below bit is room from first none =
    let within : bit < word_bits = first.within in
    let after : below ≤ bit = first.from in
    let place = k * word_bits + bit in
    let one : is_marked words place ≡ true = marked_in_word words k bit place (omega arith) (omega arith) ∙ ap
    (λ b. b == 1) first.is_one in (
      omega arith,
      has_value-distance lo (is_marked words) s is place (omega arith) ∙ one,
      no_value_before lo (is_marked words) s is v place (λ j j_from j_to.
          elim (cases_lt j (k * word_bits + below)) [
            | inl before ↦ none j j_from before
            | inr here ↦ marked_in_word words k (j % word_bits) j (omega arith) (omega arith) ∙ ap (λ b. b == 1)
                (first.none (j % word_bits) (omega arith) (omega arith))
          ]),
    )

-- if no member is before a later number, the smallest from there on is the smallest of all
pub least_later :
    (s : Values) (v w : ℕ) (answer : Option ℕ) → v ≤ w → NoValueBetween s v w → IsLeastFrom s w answer → IsLeastFrom s v answer
least_later s v w answer given given₂ given₃ = grind (arith, nat_tests)

-- the first bit of a whole word
pub first_of_word : (word : ℕ) → word < 2 ^ word_bits → 0 < word → IsFirstBit word 0 (trailing_zeros w128 word)
first_of_word word fits some =
    let whole : word / 2 ^ 0 ≡ word = omega arith in
    let found = IsFirstBit-trailing_zeros word 0 fits (omega arith) in
    let bit : 0 + trailing_zeros w128 (word / 2 ^ 0) ≡ trailing_zeros w128 (word / 2 ^ 0) = omega arith in
    subst (IsFirstBit word 0) (bit ∙ ap (trailing_zeros w128) whole) found
