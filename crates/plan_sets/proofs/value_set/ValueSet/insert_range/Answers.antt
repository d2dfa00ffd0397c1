-- Word by word: the bits of the range that are in this word are now 1, and all others are unchanged.
-- Answers both clauses of `insert_range`, the type's invariant after it, and the bounds of the distances and of each word.
-- `IsMarkedBefore-next` gives each bit after a word; after the last word `has_value-range_more` gives each member.
use Rattle.std.proofs.Common.{refl, ◌≡◌, ◌-◌, ◌*◌, ◌<◌, ◌^◌, ap, sym, ◌∙◌, arith, length, min}
use Rattle.plan_sets.specs.Items.{is_within}
use Rattle.plan_sets.specs.Values.{has_value, values_at}
use Rattle.plan_sets.specs.Words.{is_marked, word_bits}
use Rattle.plan_sets.proofs.ValuesLemmas.{base-values_at, has_value-range_more}
use Rattle.plan_sets.proofs.RangeLemmas.{IsMarkedBefore-last, IsMarkedBefore-next, IsRangeInWord}
use Rattle.plan_sets.proofs.WordsLemmas.{AreUnused-joined, AreWords-joined}
use Rattle.plan_sets.proofs.value_set.ValueSet.insert_range.Goals as goal

pub overflow_sub-low : goal.overflow_sub-low
overflow_sub-low c =
    omega (arith, base-values_at c.self.inside.base (is_marked c.self.inside.words) c.args.self.now c.self.view_is)

pub overflow_sub-high : goal.overflow_sub-high
overflow_sub-high c =
    omega (arith, base-values_at c.self.inside.base (is_marked c.self.inside.words) c.args.self.now c.self.view_is)

pub bounds-self-inside-from : goal.bounds-self-inside-from
bounds-self-inside-from c =
    omega (arith, base-values_at c.self.inside.base (is_marked c.self.inside.words) c.args.self.now c.self.view_is)

pub bounds-self-inside-from-in-loop-index : goal.bounds-self-inside-from-in-loop-index
bounds-self-inside-from-in-loop-index c =
    omega (arith, base-values_at c.self.inside.base (is_marked c.self.inside.words) c.args.self.now c.self.view_is)

pub loop-index-preserved : goal.loop-index-preserved
loop-index-preserved c =
    let fields = c.self.inside in
    let so_far = c.loop-index.invariant in
    let words = c.loop-index.self-inside.words in
    let at = c.loop-index.index in
    let bits = c.bits_from_to-bits.result in
    let low = c.args.first - fields.base in
    let high = c.args.last - fields.base in
    let bases = base-values_at fields.base (is_marked fields.words) c.args.self.now c.self.view_is in
    let within : at < length words = omega arith in
    let fits : bits < 2 ^ word_bits = omega arith in
    let from : c.saturating_sub.result ≡ low - at * word_bits = omega arith in
    let upto : c.min.result ≡ min (high - at * word_bits) (word_bits - 1) = omega arith in
    let is : IsRangeInWord low high at bits = record {
      has = λ i. c.bits_from_to-bits.ensures i ∙ ap (λ n. is_within n c.min.result i) from ∙ ap
          (λ n. is_within (low - at * word_bits) n i) upto;
    } in
    rw c.from.ensures (record {
      base = so_far.base;
      used = so_far.used;
      are_words = AreWords-joined words at bits within fits so_far.are_words;
      are_unused = AreUnused-joined words _ at bits (omega arith) so_far.are_unused;
      before = IsMarkedBefore-next fields.words words low high at bits within (omega arith) is so_far.before;
    })

pub invariant_of-self : goal.invariant_of-self
invariant_of-self c =
    let fields = c.self.inside in
    let so_far = c.loop-index.invariant in
    let bases = base-values_at fields.base (is_marked fields.words) c.args.self.now c.self.view_is in (
      omega arith,
      so_far.are_words,
      omega arith,
      λ k past. so_far.are_unused k (omega arith),
    )

pub returns-clause-base : goal.returns-clause-base
returns-clause-base c =
    let fields = c.self.inside in
    let new = c.loop-index.self-inside in
    base-values_at new.base (is_marked new.words) _ refl ∙ c.loop-index.invariant.base ∙ sym
    (base-values_at fields.base (is_marked fields.words) c.args.self.now c.self.view_is)

pub returns-clause-added : goal.returns-clause-added
returns-clause-added c v =
    let fields = c.self.inside in
    let so_far = c.loop-index.invariant in
    let words = c.loop-index.self-inside.words in
    let bases = base-values_at fields.base (is_marked fields.words) c.args.self.now c.self.view_is in
    ap (λ b. has_value (values_at b (is_marked words)) v) so_far.base
    ∙ has_value-range_more fields.base (is_marked fields.words) c.args.self.now c.self.view_is c.args.first c.args.last
    (is_marked words) (omega arith) c.requires.forwards (omega arith)
    (IsMarkedBefore-last fields.words words (c.args.first - fields.base) (c.args.last - fields.base) c.loop-index.index
    so_far.before (omega arith)) v
