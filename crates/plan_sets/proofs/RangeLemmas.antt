-- The bits of a range, word by word.
-- For `insert_range`: `has_bit-ones_between` gives the bits of a mask, and `IsMarkedBefore` says what the loop has done before a
-- word. A step has two cases: a bit of that word, for which the mask has the bits of the range, and a bit of another word, which
-- is unchanged.
use Rattle.std.proofs.Common.{◌≡◌, ℕ, ◌+◌, ◌-◌, ◌*◌, ◌/◌, ◌%◌, ◌^◌, ◌<◌, ◌≤◌, Bool, ◌&&◌, ◌||◌, nat_eq, nat_lt, min, List, length, ap, ◌∙◌, arith, inl, inr, bit_and}
use Rattle.std.specs.Int.{bit_at}
use Rattle.std.proofs.lemmas.Bool.{cases_eq, cases_lt}
use Rattle.std.proofs.lemmas.Bool.Decides.{nat_tests}
use Rattle.std.proofs.lemmas.Nat.Bits.{bit_at_and, bit_at_mask_below, bit_at_mask_inside, bit_at_ones, bit_at_ones_above, ones_shl, ones_shr}
use Rattle.plan_sets.specs.Items.{is_within}
use Rattle.plan_sets.specs.Words.{has_bit, is_marked, word_bits}
use Rattle.plan_sets.proofs.WordsLemmas.{joined, is_marked-joined}

-- all ones shifted up to a bit, and all ones shifted down to another, have the bits from the first to the second in common
pub has_bit-ones_between :
    (low high i : ℕ) → low ≤ high → high < word_bits →
    has_bit (bit_and ((2 ^ word_bits - 1) * 2 ^ low % 2 ^ word_bits) ((2 ^ word_bits - 1) / 2 ^ (word_bits - 1 - high))) i
    ≡ is_within low high i
has_bit-ones_between low high i forwards within =
    let from = (2 ^ word_bits - 1) * 2 ^ low % 2 ^ word_bits in
    let upto = (2 ^ word_bits - 1) / 2 ^ (word_bits - 1 - high) in
    let count : word_bits - (word_bits - 1 - high) ≡ high + 1 = omega arith in
    let ones : upto ≡ 2 ^ (high + 1) - 1 = ones_shr word_bits (word_bits - 1 - high) (omega arith) ∙ ap (λ n. 2 ^ n - 1) count in
    let bit : bit_at (bit_and from upto) i ≡ min (bit_at (2 ^ word_bits - 2 ^ low) i) (bit_at (2 ^ (high + 1) - 1) i) =
    bit_at_and from upto i ∙ ap (λ n. min (bit_at n i) (bit_at upto i)) (ones_shl word_bits low (omega arith)) ∙ ap
    (λ n. min (bit_at (2 ^ word_bits - 2 ^ low) i) (bit_at n i)) ones in
    elim (cases_lt i low) [
      | inl before ↦
          let none = bit_at_mask_below low word_bits i before in
          grind (arith, nat_tests, bit, none)
      | inr after ↦ elim (cases_lt high i) [
        | inl past ↦
            let none = bit_at_ones_above (high + 1) i (omega arith) in
            grind (arith, nat_tests, bit, none)
        | inr here ↦
            let one = bit_at_mask_inside low word_bits i after (omega arith) in
            let one_too = bit_at_ones (high + 1) i (omega arith) in
            grind (arith, nat_tests, bit, one, one_too)
      ]
    ]

-- the bits of a row are those of an old row, and those of a range that are before a word
pub record IsMarkedBefore (old words : List ℕ) (low high at : ℕ) : Type 0 where
  pub marked : (j : ℕ) → is_marked words j ≡ (is_marked old j || (is_within low high j && nat_lt j (at * word_bits)))

-- the row has all bits of the range after the word in which the range ends
pub IsMarkedBefore-last :
    (old words : List ℕ) (low high at : ℕ) → IsMarkedBefore old words low high at → high / word_bits < at →
    (j : ℕ) → is_marked words j ≡ (is_marked old j || is_within low high j)
IsMarkedBefore-last old words low high at before past j = grind (arith, nat_tests)

-- a mask has the bits of a range that are in a word
pub record IsRangeInWord (low high at bits : ℕ) : Type 0 where
  pub has : (i : ℕ) → has_bit bits i ≡ is_within (low - at * word_bits) (min (high - at * word_bits) (word_bits - 1)) i

-- with that mask, the row has the bits of the range before the next word
pub IsMarkedBefore-next :
    (old words : List ℕ) (low high at bits : ℕ) → at < length words → at * word_bits ≤ high → IsRangeInWord low high at bits →
    IsMarkedBefore old words low high at → IsMarkedBefore old (joined words at bits) low high (at + 1)
IsMarkedBefore-next old words low high at bits within no_later is before = record {
  marked = λ j.
      let here = nat_eq (j / word_bits) at in
      is_marked-joined words at bits j within
      ∙ ap (λ b. b || (here && has_bit bits (j % word_bits))) (before.marked j)
      ∙ ap (λ b. (is_marked old j || (is_within low high j && nat_lt j (at * word_bits))) || (here && b)) (is.has (j % word_bits))
      ∙ next j (is_marked old j);
}
  where
    next :
        (j : ℕ) (b : Bool) →
        ((b || (is_within low high j && nat_lt j (at * word_bits)))
        || (nat_eq (j / word_bits) at && is_within (low - at * word_bits) (min (high - at * word_bits) (word_bits - 1)) (j % word_bits)))
        ≡ (b || (is_within low high j && nat_lt j ((at + 1) * word_bits)))
    next j b = elim (cases_eq (j / word_bits) at) [
      | inl same ↦
          let range : is_within (low - at * word_bits) (min (high - at * word_bits) (word_bits - 1)) (j % word_bits)
          ≡ is_within low high j = grind (arith, nat_tests) in
          grind (arith, nat_tests, range)
      | inr elsewhere ↦
          let stays : nat_lt j (at * word_bits) ≡ nat_lt j ((at + 1) * word_bits) = grind (arith, nat_tests) in
          grind (arith, nat_tests, stays)
    ]
