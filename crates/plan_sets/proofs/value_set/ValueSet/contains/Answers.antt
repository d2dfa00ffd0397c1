-- A value is a member if the bit with its distance from the base is 1.
-- Answers the one clause of `contains`: below the base and after the words there is no member; in between, the shift and the mask
-- of the code read that bit (`shr_and_one`).
use Rattle.std.proofs.Common.{◌≡◌, ◌-◌, ◌/◌, ◌%◌, ◌≤◌, ℕ, false, ap, arith, get_or, length, sym, ◌∙◌, ◌==◌}
use Rattle.std.proofs.lemmas.Nat.Bits.{shr_and_one}
use Rattle.std.specs.Int.{bit_at}
use Rattle.plan_sets.specs.Limits.{set_span}
use Rattle.plan_sets.specs.Words.{is_marked, word_bits}
use Rattle.plan_sets.proofs.ValuesLemmas.{has_value-below, has_value-from}
use Rattle.plan_sets.proofs.WordsLemmas.{is_marked-past}
use Rattle.plan_sets.proofs.value_set.ValueSet.contains.Goals as goal

pub returns-in_default : goal.returns-in_default
returns-in_default c =
    let fields = c.self.inside in
    sym (has_value-below fields.base (is_marked fields.words) c.args.self.now c.self.view_is c.args.v (omega (arith, c.in_default.ensures)))

pub returns-in_default-get : goal.returns-in_default-get
returns-in_default-get c =
    let fields = c.self.inside in
    let past : (k : ℕ) → set_span ≤ k → is_marked fields.words k ≡ false = λ k from. is_marked-past fields.words k (omega arith) in
    let beyond : length fields.words ≤ (c.args.v - fields.base) / word_bits = omega
    (arith, c.in-Some.ensures, c.in_default-get.ensures.lookup.3) in
    sym (has_value-from fields.base (is_marked fields.words) c.args.self.now c.self.view_is c.args.v
    (omega (arith, c.in-Some.ensures)) past ∙ is_marked-past fields.words (c.args.v - fields.base) beyond)

pub returns : goal.returns
returns c =
    let fields = c.self.inside in
    let past : (k : ℕ) → set_span ≤ k → is_marked fields.words k ≡ false = λ k from. is_marked-past fields.words k (omega arith) in
    let offset = c.in-Some.offset in
    ap (λ b. b == 1) (shr_and_one c.in-Some-get.word.now (offset % word_bits))
    ∙ ap (λ w. bit_at w (offset % word_bits) == 1) (c.in-Some-get.ensures.lookup.3.1 0)
    ∙ ap (λ k. bit_at (get_or fields.words k 0) (offset % word_bits) == 1) c.from.ensures
    ∙ ap (is_marked fields.words) c.in-Some.ensures.1
    ∙ sym (has_value-from fields.base (is_marked fields.words) c.args.self.now c.self.view_is c.args.v
    (omega (arith, c.in-Some.ensures)) past)
