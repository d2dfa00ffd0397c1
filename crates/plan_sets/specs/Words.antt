-- How a value set is kept: a bit for each number that can be a member, in words.
use Rattle.std.specs.Prelude.{◌≡◌, ℕ, ◌/◌, ◌%◌, ◌^◌, ◌<◌, ◌≤◌, Bool, ◌==◌, List, slice_index}
use Rattle.std.specs.Int.{bit_at}
use Rattle.plan_sets.specs.Limits.{set_span}

-- the number of bits in a word; each is for one number
abbrev pub word_bits : ℕ
word_bits = 128

-- the number of words that a set is kept in
abbrev pub word_count : ℕ
word_count = set_span / word_bits

-- each number of the list is a word
abbrev pub AreWords : List ℕ → Type 0
AreWords words = (k : ℕ) → slice_index words k < 2 ^ word_bits

-- the words from number `used` on are 0
abbrev pub AreUnused : List ℕ → ℕ → Type 0
AreUnused words used = (k : ℕ) → used ≤ k → slice_index words k ≡ 0

-- bit i of a word is 1; the lowest is bit 0
abbrev pub has_bit : ℕ → ℕ → Bool
has_bit word i = bit_at word i == 1

-- bit k of a row of words is 1; the lowest bit of the first word is bit 0
abbrev pub is_marked : List ℕ → ℕ → Bool
is_marked words k = bit_at (slice_index words (k / word_bits)) (k % word_bits) == 1
