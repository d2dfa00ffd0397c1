-- Step by step: the set has the steps up to the value, and no number between two steps is a step.
use Rattle.std.proofs.Common.{◌≡◌, ◌+◌, ◌-◌, ◌%◌, ◌||◌, nat_eq, ap, ◌∙◌, arith}
use Rattle.std.proofs.Math.Nat.{add-mod_right}
use Rattle.plan_sets.specs.Values.{Values, has_value}
use Rattle.plan_sets.specs.ValuesLaws.{has_value-with_value}
use Rattle.plan_sets.proofs.ItemsLemmas.{last_step_added, step_added}
use Rattle.plan_sets.proofs.item.add_steps.Goals as goal

pub returns-then-last-value-clause-added : goal.returns-then-last-value-clause-added
returns-then-last-value-clause-added c v =
    let a = c.args in
    let so_far = c.loop-value.invariant in
    ap (λ (s : Values). has_value s v) c.insert.ensures ∙ has_value-with_value c.loop-value.values c.loop-value.value v
    ∙ ap (λ b. nat_eq v c.loop-value.value || b) (so_far.added v)
    ∙ last_step_added a.first c.loop-value.value a.last a.step v (has_value a.values.now v) c.requires.moves so_far.from so_far.to
    (omega (arith, c.if-last-value.true)) so_far.is_step

pub loop-value-preserved : goal.loop-value-preserved
loop-value-preserved c =
    let a = c.args in
    let so_far = c.loop-value.invariant in
    let next : c.loop-value.value + a.step - a.first ≡ c.loop-value.value - a.first + a.step = omega (arith, so_far.from) in
    record {
      base = ap (λ (s : Values). s.base) c.insert.ensures ∙ so_far.base;
      from = omega arith;
      to = omega (arith, c.if-last-value.false);
      is_step = ap (λ n. n % a.step) next ∙ add-mod_right (c.loop-value.value - a.first) a.step ∙ so_far.is_step;
      added = λ v.
          ap (λ (s : Values). has_value s v) c.insert.ensures ∙ has_value-with_value c.loop-value.values c.loop-value.value v
          ∙ ap (λ b. nat_eq v c.loop-value.value || b) (so_far.added v)
          ∙ step_added a.first c.loop-value.value a.step v (has_value a.values.now v) c.requires.moves so_far.from so_far.is_step;
    }
