-- The bits of a row of words: more bits in one word, the first bit from a position on, and that equal bits mean equal words.
-- For `ValueSet`: one more bit for `insert`, those of a mask for `insert_range` (`joined`), the first for `first_from`,
-- `Decides-words` for `==` and `is_empty`. Bit k is bit k % word_bits of word k / word_bits; only that word matters.
use Rattle.std.proofs.Common.{◌≡◌, ℕ, ◌+◌, ◌-◌, ◌*◌, ◌/◌, ◌%◌, ◌^◌, ◌<◌, ◌≤◌, Bool, Decides, true, false, ◌&&◌, ◌||◌, ◌==◌, ◌≢◌, nat_eq, List, length, get_or, ap, sym, ◌∙◌, arith, inl, inr, bit_or, replicate, get_or-set_same, get_or-set_other}
use lib.ListN.{set as put}
use Rattle.std.specs.Cmp.Lexicographic.{pointwise, bytes_decides}
use Rattle.std.specs.Int.{bit_at, trailing_zeros, w128}
use Rattle.std.proofs.lemmas.Bool.{cases_eq, cases_lt}
use Rattle.std.proofs.lemmas.Bool.Decides.{nat_tests}
use Rattle.std.proofs.lemmas.List.{get_or-replicate, get_or_past, length-replicate}
use Rattle.std.proofs.lemmas.Grind.{same_number_lists}
use Rattle.std.proofs.lemmas.Nat.{one_shl, or_lt, shr-shr, shr_le}
use Rattle.std.proofs.lemmas.Nat.Bits.{bit_at_or, bit_at-lt, bit_at-pow_other, bit_at-pow_same, bit_at-trailing_zeros, bit_at-zero, bit_at_above, same_from_bits_below}
use Rattle.plan_sets.specs.Limits.{set_span}
use Rattle.plan_sets.specs.Words.{has_bit, is_marked, word_bits, word_count, AreUnused, AreWords}

-- after the words no bit is 1
pub is_marked-past : (words : List ℕ) (k : ℕ) → length words ≤ k / word_bits → is_marked words k ≡ false
is_marked-past words k past =
    ap (λ w. bit_at w (k % word_bits) == 1) (get_or_past words (k / word_bits) 0 past) ∙ ap (λ b. b == 1) (bit_at-zero (k % word_bits))

-- no bit of an unused word is 1
pub is_marked-unused : (words : List ℕ) (used k : ℕ) → AreUnused words used → used ≤ k / word_bits → is_marked words k ≡ false
is_marked-unused words used k unused past = grind (arith, nat_tests)

-- the row after the bits of a mask were added to one word
abbrev pub joined : List ℕ → ℕ → ℕ → List ℕ
joined words at bits = put words at (bit_or (get_or words at 0) bits)

has_bit-or : (a b i : ℕ) → has_bit (bit_or a b) i ≡ (has_bit a i || has_bit b i)
has_bit-or a b i = grind (arith, nat_tests, bit_at_or a b i, bit_at-lt a i, bit_at-lt b i)

pub is_marked-joined :
    (words : List ℕ) (at bits j : ℕ) → at < length words →
    is_marked (joined words at bits) j ≡ (is_marked words j || (nat_eq (j / word_bits) at && has_bit bits (j % word_bits)))
is_marked-joined words at bits j within =
    let i = j % word_bits in
    let more = bit_or (get_or words at 0) bits in
    elim (cases_eq (j / word_bits) at) [
      | inl same ↦
          let read : get_or (put words at more) (j / word_bits) 0 ≡ more = ap (λ n. get_or (put words at more) n 0) same
          ∙ get_or-set_same words at more 0 within in
          let was : has_bit (get_or words at 0) i ≡ is_marked words j = ap (λ n. has_bit (get_or words n 0) i) (sym same) in
          let this : nat_eq (j / word_bits) at ≡ true = grind (arith, nat_tests) in
          ap (λ n. has_bit n i) read ∙ has_bit-or (get_or words at 0) bits i ∙ ap (λ b. b || has_bit bits i) was
          ∙ sym (ap (λ b. is_marked words j || (b && has_bit bits i)) this)
      | inr elsewhere ↦
          let other : nat_eq (j / word_bits) at ≡ false = grind (arith, nat_tests) in
          ap (λ n. has_bit n i) (get_or-set_other words at (j / word_bits) more 0 elsewhere)
          ∙ last (is_marked words j) (nat_eq (j / word_bits) at) (has_bit bits i) other
    ]
  where
    last : (a b c : Bool) → b ≡ false → a ≡ (a || (b && c))
    last a b c none = grind (arith, nat_tests)

-- with the bits of a mask they are still words
pub AreWords-joined :
    (words : List ℕ) (at bits : ℕ) → at < length words → bits < 2 ^ word_bits → AreWords words → AreWords (joined words at bits)
AreWords-joined words at bits within fits are w =
    let more = bit_or (get_or words at 0) bits in
    let more_fits : more < 2 ^ word_bits = or_lt word_bits _ _ (are at) fits in
    elim (cases_eq w at) [
      | inl same ↦
          let read : get_or (put words at more) w 0 ≡ more = ap (λ i. get_or (put words at more) i 0) same
          ∙ get_or-set_same words at more 0 within in
          omega (arith, read, more_fits)
      | inr other ↦ omega (arith, get_or-set_other words at w more 0 other, are w)
    ]

-- no more words are used, if this one already was
pub AreUnused-joined :
    (words : List ℕ) (used at bits : ℕ) → at < used → AreUnused words used → AreUnused (joined words at bits) used
AreUnused-joined words used at bits below unused w past =
    let other : w ≢ at = λ same. omega (arith, same, past) in
    omega (arith, get_or-set_other words at w (bit_or (get_or words at 0) bits) 0 other, unused w past)

-- the word with one bit
abbrev pub one_bit : ℕ → ℕ
one_bit k = 1 * 2 ^ k % 2 ^ word_bits

has_bit-one_bit : (k i : ℕ) → k < word_bits → has_bit (one_bit k) i ≡ nat_eq i k
has_bit-one_bit k i within =
    ap (λ n. has_bit n i) (one_shl k word_bits within)
    ∙ elim (cases_eq i k) [
      | inl same ↦
          let one : bit_at (2 ^ k) i ≡ 1 = ap (bit_at (2 ^ k)) same ∙ bit_at-pow_same k in
          grind (arith, nat_tests, one)
      | inr apart ↦ grind (arith, nat_tests, bit_at-pow_other k i apart)
    ]

-- the row with one more bit
abbrev pub marked_more : List ℕ → ℕ → List ℕ
marked_more words k = joined words (k / word_bits) (one_bit (k % word_bits))

pub is_marked-more :
    (words : List ℕ) (k j : ℕ) → k / word_bits < length words →
    is_marked (marked_more words k) j ≡ (nat_eq j k || is_marked words j)
is_marked-more words k j within =
    let place : (nat_eq (j / word_bits) (k / word_bits) && nat_eq (j % word_bits) (k % word_bits)) ≡ nat_eq j k =
    grind (arith, nat_tests) in
    is_marked-joined words (k / word_bits) (one_bit (k % word_bits)) j within
    ∙ ap (λ b. is_marked words j || (nat_eq (j / word_bits) (k / word_bits) && b))
    (has_bit-one_bit (k % word_bits) (j % word_bits) (omega arith))
    ∙ ap (λ b. is_marked words j || b) place ∙ or_turned (is_marked words j) (nat_eq j k)
  where
    or_turned : (a b : Bool) → (a || b) ≡ (b || a)
    or_turned a b = grind (arith, nat_tests)

-- with one more bit they are still words
pub AreWords-more : (words : List ℕ) (k : ℕ) → k / word_bits < length words → AreWords words → AreWords (marked_more words k)
AreWords-more words k within are = AreWords-joined words (k / word_bits) (one_bit (k % word_bits)) within (omega arith) are

-- no word after the bit's word is used
pub AreUnused-more :
    (words : List ℕ) (used more k : ℕ) → AreUnused words used → used ≤ more → k / word_bits < more →
    AreUnused (marked_more words k) more
AreUnused-more words used more k unused no_less within =
    AreUnused-joined words more (k / word_bits) (one_bit (k % word_bits)) within (λ w past. unused w (omega (arith, past)))

-- the bits of a shifted word
bit_at-shr : (n below i : ℕ) → bit_at (n / 2 ^ below) i ≡ bit_at n (below + i)
bit_at-shr n below i = ap (λ x. x % 2) (shr-shr n below i)

-- a word that is 0 from a position on has no bit there
pub none_in_word :
    (words : List ℕ) (k below j : ℕ) → get_or words k 0 / 2 ^ below ≡ 0 → j / word_bits ≡ k → below ≤ j % word_bits →
    is_marked words j ≡ false
none_in_word words k below j none same from =
    let i = j % word_bits in
    let place : below + (i - below) ≡ i = omega arith in
    let zero_there : bit_at (get_or words k 0) i ≡ 0 = ap (bit_at (get_or words k 0)) (sym place) ∙ sym
    (bit_at-shr (get_or words k 0) below (i - below)) ∙ ap (λ w. bit_at w (i - below)) none ∙ bit_at-zero (i - below) in
    ap (λ a. bit_at (get_or words a 0) i == 1) same ∙ ap (λ b. b == 1) zero_there

-- the first bit of a word from a position on
pub record IsFirstBit (word below bit : ℕ) : Type 0 where
  pub within : bit < word_bits
  pub from : below ≤ bit
  pub is_one : bit_at word bit ≡ 1
  pub none : (i : ℕ) → below ≤ i → i < bit → bit_at word i ≡ 0

pub IsFirstBit-trailing_zeros :
    (word below : ℕ) → word < 2 ^ word_bits → 0 < word / 2 ^ below →
    IsFirstBit word below (below + trailing_zeros w128 (word / 2 ^ below))
IsFirstBit-trailing_zeros word below fits some =
    let rest = word / 2 ^ below in
    let t = trailing_zeros w128 rest in
    let rest_fits : rest < 2 ^ word_bits = omega (arith, shr_le word below) in
    let lowest = bit_at-trailing_zeros w128 rest some rest_fits in
    let one : bit_at word (below + t) ≡ 1 = sym (bit_at-shr word below t) ∙ lowest.1 in
    record {
      within = elim (cases_lt (below + t) word_bits) [
        | inl lt ↦ lt
        | inr past ↦ absurd (omega (arith, one, bit_at_above word word_bits (below + t) fits past))
      ];
      from = omega arith;
      is_one = one;
      none = λ i low high.
          let place : below + (i - below) ≡ i = omega arith in
          ap (bit_at word) (sym place) ∙ sym (bit_at-shr word below (i - below)) ∙ lowest.2 (i - below) (omega arith);
    }

same_bit : (a b i : ℕ) → (bit_at a i == 1) ≡ (bit_at b i == 1) → bit_at a i ≡ bit_at b i
same_bit a b i same = grind (arith, nat_tests, bit_at-lt a i, bit_at-lt b i)

-- rows with the same bits are equal
pub same_words :
    (xs ys : List ℕ) → length xs ≡ length ys → AreWords xs → AreWords ys →
    ((k : ℕ) → k < length xs * word_bits → is_marked xs k ≡ is_marked ys k) → xs ≡ ys
same_words xs ys long fits_x fits_y each =
    same_number_lists xs ys long (λ w within.
    same_from_bits_below word_bits (get_or xs w 0) (get_or ys w 0) (fits_x w) (fits_y w) (λ i low.
    let k = w * word_bits + i in
    let word : k / word_bits ≡ w = omega arith in
    let bit : k % word_bits ≡ i = omega arith in
    same_bit (get_or xs w 0) (get_or ys w 0) i
    (ap (λ p. bit_at (get_or xs p 0) i == 1) (sym word) ∙ ap (λ p. bit_at (get_or xs (k / word_bits) 0) p == 1) (sym bit)
    ∙ each k (omega arith)
    ∙ ap (λ p. bit_at (get_or ys (k / word_bits) 0) p == 1) bit ∙ ap (λ p. bit_at (get_or ys p 0) i == 1) word)))

-- words that are 0
abbrev pub zeros : ℕ → List ℕ
zeros n = replicate n 0

get_or-zeros : (n w : ℕ) → get_or (zeros n) w 0 ≡ 0
get_or-zeros n w =
    elim (cases_lt w n) [
      | inl below ↦ get_or-replicate n w 0 0 below
      | inr past ↦ get_or_past (zeros n) w 0 (omega (arith, length-replicate {A = ℕ} n 0))
    ]

pub AreWords-zeros : (n : ℕ) → AreWords (zeros n)
AreWords-zeros n w = omega (arith, get_or-zeros n w)

-- no bit of these is 1
pub is_marked-zeros : (n k : ℕ) → is_marked (zeros n) k ≡ false
is_marked-zeros n k =
    ap (λ w. bit_at w (k % word_bits) == 1) (get_or-zeros n (k / word_bits)) ∙ ap (λ b. b == 1) (bit_at-zero (k % word_bits))

-- the test of two rows of a set's words decides whether they have the same bits
pub record SameBits (xs ys : List ℕ) : Type 0 where
  pub each : (k : ℕ) → k < set_span → is_marked xs k ≡ is_marked ys k

pub Decides-words :
    (xs ys : List ℕ) → length xs ≡ word_count → length ys ≡ word_count → AreWords xs → AreWords ys →
    Decides (pointwise ◌==◌ xs ys) (SameBits xs ys)
Decides-words xs ys long_x long_y are_x are_y =
    let d = bytes_decides xs ys in (
      λ yes. let same : xs ≡ ys = d.0 yes in record { each = λ k _. ap (λ l. is_marked l k) same },
      λ bits. d.1 (same_words xs ys (long_x ∙ sym long_y) are_x are_y (λ k low. bits.each k (omega arith))),
    )
