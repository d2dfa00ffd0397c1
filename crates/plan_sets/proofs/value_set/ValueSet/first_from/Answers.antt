-- The smallest member is the first bit of the word from the start on, or else the first bit of a later word.
use Rattle.std.proofs.Common.{◌≡◌, ℕ, ◌+◌, ◌*◌, ◌/◌, ◌%◌, ◌^◌, ◌<◌, ◌≤◌, false, subst, arith, get_or, Some}
use Rattle.std.specs.Int.{trailing_zeros, w128}
use Rattle.plan_sets.specs.Limits.{set_span}
use Rattle.plan_sets.specs.Values.{IsLeastFrom}
use Rattle.plan_sets.specs.Words.{is_marked, word_bits}
use Rattle.plan_sets.proofs.FirstLemmas.{least_later, least_of_word}
use Rattle.plan_sets.proofs.ValuesLemmas.{base-values_at, no_value_before, no_value_from}
use Rattle.plan_sets.proofs.WordsLemmas.{is_marked-unused, IsFirstBit, IsFirstBit-trailing_zeros, none_in_word}
use Rattle.plan_sets.proofs.value_set.ValueSet.first_from.Goals as goal
use Rattle.plan_sets.proofs.value_set.ValueSet.first_from.Goals.{After-first_of_later_words, Else-rest-eq0 as AddResult}

pub returns-then-index-self : goal.returns-then-index-self
returns-then-index-self c =
    let fields = c.self.inside in
    no_value_from fields.base (is_marked fields.words) c.args.self.now c.self.view_is c.args.v set_span (omega arith)
    (λ k from to. is_marked-unused fields.words fields.used k c.self.invariant.3 (omega arith))

-- no bit from the start on up to a later word is 1
none_here :
    (c : After-first_of_later_words) → (k : ℕ) → c.saturating_sub-start.result ≤ k →
    k < (c.saturating_sub-start.result / word_bits + 1) * word_bits → is_marked c.self.inside.words k ≡ false
none_here c k from to =
    none_in_word c.self.inside.words (c.saturating_sub-start.result / word_bits) (c.saturating_sub-start.result % word_bits) k
    (rw (← c.from.ensures) c.if-rest-eq0.true) (omega arith) (omega arith)

pub returns-then-rest-eq0 : goal.returns-then-rest-eq0
returns-then-rest-eq0 c =
    let fields = c.self.inside in
    let base = base-values_at fields.base (is_marked fields.words) c.args.self.now c.self.view_is in
    least_later c.args.self.now c.args.v (c.args.self.now.base + (c.saturating_sub-start.result / word_bits + 1) * word_bits)
    c.first_of_later_words.result (omega arith)
    (λ u from to. no_value_before fields.base (is_marked fields.words) c.args.self.now c.self.view_is c.args.v
    ((c.saturating_sub-start.result / word_bits + 1) * word_bits)
    (λ k k_from k_to. none_here c k (omega arith) k_to) u from (omega arith))
    c.first_of_later_words.ensures

-- the first bit of the word from the start on
first :
    (c : AddResult) →
    IsFirstBit (get_or c.self.inside.words c.from.result 0) (c.saturating_sub-start.result % word_bits)
    (c.saturating_sub-start.result % word_bits + trailing_zeros w128
    (get_or c.self.inside.words c.from.result 0 / 2 ^ (c.saturating_sub-start.result % word_bits)))
first c =
    IsFirstBit-trailing_zeros (get_or c.self.inside.words c.from.result 0) (c.saturating_sub-start.result % word_bits)
    (c.self.invariant.1 c.from.result) (omega (arith, c.if-rest-eq0.false))

pub overflow_add-result-2 : goal.overflow_add-result-2
overflow_add-result-2 c = let within = (first c).within in omega arith

pub returns : goal.returns
returns c =
    let fields = c.self.inside in
    let start = c.saturating_sub-start.result in
    let k = start / word_bits in
    let bit = start % word_bits + trailing_zeros w128 (get_or fields.words c.from.result 0 / 2 ^ (start % word_bits)) in
    let here : IsFirstBit (get_or fields.words k 0) (start % word_bits) bit = subst
    (λ i. IsFirstBit (get_or fields.words i 0) (start % word_bits) bit) c.from.ensures (first c) in
    let place : fields.base + (k * word_bits + bit) ≡ fields.base + start + trailing_zeros w128
    (get_or fields.words c.from.result 0 / 2 ^ (start % word_bits)) = omega arith in
    subst (λ n. IsLeastFrom c.args.self.now c.args.v (Some n)) place
    (least_of_word fields.words fields.base c.args.self.now c.args.v k (start % word_bits) bit c.self.view_is (omega arith)
    (omega arith) here (λ j from to. absurd (omega arith)))
