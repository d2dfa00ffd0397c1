-- Word by word: all words so far are 0, and the first that is not 0 has the smallest member.
use Rattle.std.proofs.Common.{◌≡◌, ◌+◌, ◌*◌, ◌<◌, ap, sym, subst, ◌∙◌, arith, get_or, Some, inl, inr}
use Rattle.std.specs.Int.{trailing_zeros, w128}
use Rattle.std.proofs.lemmas.Bool.{cases_lt}
use Rattle.plan_sets.specs.Limits.{set_span}
use Rattle.plan_sets.specs.Values.{IsLeastFrom}
use Rattle.plan_sets.specs.Words.{is_marked, word_bits}
use Rattle.plan_sets.proofs.FirstLemmas.{first_of_word, least_of_word}
use Rattle.plan_sets.proofs.ValuesLemmas.{base-values_at, no_value_from}
use Rattle.plan_sets.proofs.WordsLemmas.{is_marked-unused}
use Rattle.plan_sets.proofs.value_set.ValueSet.first_of_later_words.Goals as goal

pub returns-then-word-ne0 : goal.returns-then-word-ne0
returns-then-word-ne0 c =
    let fields = c.self.inside in
    let base = base-values_at fields.base (is_marked fields.words) c.args.self.now c.self.view_is in
    let k = c.loop-later.later in
    let word = get_or fields.words k 0 in
    let some : 0 < get_or fields.words c.from.result 0 = omega (arith, c.if-word-ne0.true) in
    let first = first_of_word word (c.self.invariant.1 k) (subst (λ i. 0 < get_or fields.words i 0) c.from.ensures some) in
    let found : IsLeastFrom c.args.self.now (c.args.self.now.base + (c.args.index + 1) * word_bits)
    (Some (fields.base + (k * word_bits + trailing_zeros w128 word))) =
    least_of_word fields.words fields.base c.args.self.now (c.args.self.now.base + (c.args.index + 1) * word_bits) k 0
    (trailing_zeros w128 word) c.self.view_is (omega arith) (omega arith) first
    (λ j from to. c.loop-later.invariant j (omega arith) (omega arith)) in
    let place : fields.base + (k * word_bits + trailing_zeros w128 word) ≡ fields.base + k * word_bits + trailing_zeros w128 word =
    omega arith in
    let read : fields.base + k * word_bits + trailing_zeros w128 word ≡ fields.base + k * word_bits + trailing_zeros w128
    (get_or fields.words c.from.result 0) = ap
    (λ i. fields.base + k * word_bits + trailing_zeros w128 (get_or fields.words i 0)) (sym c.from.ensures) in
    subst (λ n. IsLeastFrom c.args.self.now (c.args.self.now.base + (c.args.index + 1) * word_bits) (Some n)) (place ∙ read) found

pub returns : goal.returns
returns c =
    let fields = c.self.inside in
    let base = base-values_at fields.base (is_marked fields.words) c.args.self.now c.self.view_is in
    no_value_from fields.base (is_marked fields.words) c.args.self.now c.self.view_is
    (c.args.self.now.base + (c.args.index + 1) * word_bits) set_span (omega arith)
    (λ k from to.
    elim (cases_lt k (fields.used * word_bits)) [
      | inl used ↦ c.loop-later.invariant k (omega arith) (omega arith)
      | inr after ↦ is_marked-unused fields.words fields.used k c.self.invariant.3 (omega arith)
    ])
