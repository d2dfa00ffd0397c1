-- The bit with the value's distance from the base is now 1, and all others are unchanged.
-- Answers the one clause of `insert`, the type's invariant after it, and the bounds of the distance and of its word.
-- `is_marked-more` gives each bit of the new words; by `values_at-with_value` they are the set with the new value.
use Rattle.std.proofs.Common.{◌-◌, ◌/◌, ◌<◌, arith, length}
use Rattle.plan_sets.specs.Words.{is_marked, word_bits}
use Rattle.plan_sets.proofs.ValuesLemmas.{base-values_at, values_at-with_value}
use Rattle.plan_sets.proofs.WordsLemmas.{is_marked-more, marked_more, AreUnused-more, AreWords-more}
use Rattle.plan_sets.proofs.value_set.ValueSet.insert.Goals as goal

pub overflow_sub-offset : goal.overflow_sub-offset
overflow_sub-offset c =
    omega (arith, base-values_at c.self.inside.base (is_marked c.self.inside.words) c.args.self.now c.self.view_is)

pub bounds-self-inside-from : goal.bounds-self-inside-from
bounds-self-inside-from c =
    omega (arith, base-values_at c.self.inside.base (is_marked c.self.inside.words) c.args.self.now c.self.view_is)

pub bounds-self-inside-from-2 : goal.bounds-self-inside-from-2
bounds-self-inside-from-2 c =
    omega (arith, base-values_at c.self.inside.base (is_marked c.self.inside.words) c.args.self.now c.self.view_is)

pub invariant_of-self : goal.invariant_of-self
invariant_of-self c =
    let fields = c.self.inside in
    let bases = base-values_at fields.base (is_marked fields.words) c.args.self.now c.self.view_is in
    let offset = c.args.v - fields.base in
    let within : offset / word_bits < length fields.words = omega arith in (
      c.self.invariant.0,
      rw c.from.ensures (AreWords-more fields.words offset within c.self.invariant.1),
      omega arith,
      rw c.from.ensures (AreUnused-more fields.words fields.used _ offset c.self.invariant.3 (omega arith) (omega arith)),
    )

pub returns : goal.returns
returns c =
    let fields = c.self.inside in
    let bases = base-values_at fields.base (is_marked fields.words) c.args.self.now c.self.view_is in
    let offset = c.args.v - fields.base in
    let within : offset / word_bits < length fields.words = omega arith in
    rw c.from.ensures (values_at-with_value fields.base (is_marked fields.words) c.args.self.now c.self.view_is c.args.v
    (is_marked (marked_more fields.words offset)) (omega arith) (omega arith)
    (λ k. is_marked-more fields.words offset k within))
