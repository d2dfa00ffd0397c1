-- Answers the one clause of `set_of`: the answer is `set_reading` of the items.
-- By the loop's invariant the items so far are valid, and the set has their values. An invalid item ends the loop with the first
-- error (`set_reading-fault`). After the last item, the set is the reading (`set_reading-values`).
use Rattle.std.proofs.Common.{◌≡◌, ◌<◌, ◌||◌, ◌&&◌, length, ap, sym, ◌∙◌, arith, take, get_or, refl, take_all}
use Rattle.std.proofs.lemmas.List.{take_more}
use Rattle.std.proofs.lemmas.Bool.{eqb-true, eqb-false}
use Rattle.plan_sets.specs.Values.{Values, has_value}
use Rattle.plan_sets.specs.Items.{belongs, first_fault, is_held, is_within}
use Rattle.plan_sets.specs.declared.item.Item.TheVariants.{One}
use Rattle.plan_sets.specs.ValuesLaws.{has_value-no_values}
use Rattle.plan_sets.proofs.ItemsLemmas.{set_reading-empty, set_reading-fault, set_reading-values, is_held-push, first_fault-push, nothing_held}
use Rattle.plan_sets.proofs.item.set_of.Goals as goal

pub returns-then-is_empty : goal.returns-then-is_empty
returns-then-is_empty c =
    sym (set_reading-empty c.args.lo c.args.hi c.args.items.now (eqb-true _ _ (sym c.is_empty.ensures ∙ c.if-is_empty.true)))

pub loop-item-init : goal.loop-item-init
loop-item-init c =
    let new = c.empty-values.ensures in
    record {
      base = ap (λ (s : Values). s.base) new;
      faultless = refl;
      held = λ v. ap (λ (s : Values). has_value s v) new ∙ has_value-no_values c.args.lo v ∙ sym (nothing_held c.args.lo c.args.hi v);
    }

pub returns-in-Some : goal.returns-in-Some
returns-in-Some c =
    let items = c.args.items.now in
    let k = c.loop-item.item-index in
    sym (set_reading-fault c.args.lo c.args.hi items k _ c.in-Some.fault c.loop-item-test.true
    (take_more items k _ c.loop-item-test.true) c.loop-item.invariant.faultless (sym c.fault.ensures ∙ c.in-Some.is))

pub loop-item-preserved : goal.loop-item-preserved
loop-item-preserved c =
    let lo = c.args.lo in
    let hi = c.args.hi in
    let items = c.args.items.now in
    let k = c.loop-item.item-index in
    let more = take_more items k (One 0) c.loop-item-test.true in
    record {
      base = c.add_to.ensures.base;
      faultless = ap (first_fault lo hi) more ∙ first_fault-push lo hi (take k items) _ c.loop-item.invariant.faultless
          ∙ sym c.fault.ensures ∙ c.in_default.is;
      held = λ v. c.add_to.ensures.added v
          ∙ ap (λ b. b || (is_within lo hi v && belongs (get_or items k (One 0)) v)) (c.loop-item.invariant.held v)
          ∙ is_held-push (take k items) (get_or items k (One 0)) lo hi v
          ∙ ap (λ xs. is_held xs lo hi v) (sym more);
    }

pub returns : goal.returns
returns c =
    let items = c.args.items.now in
    let some = eqb-false (length items) 0 (sym c.is_empty.ensures ∙ c.if-is_empty.false) in
    let filled : 0 < length items = omega arith in
    let whole : take c.loop-item.item-index items ≡ items = take_all c.loop-item.item-index items (omega arith) in
    sym (set_reading-values c.args.lo c.args.hi items c.loop-item.values filled c.requires.limits
    (ap (first_fault c.args.lo c.args.hi) (sym whole) ∙ c.loop-item.invariant.faultless) c.loop-item.invariant.base
    (λ v. c.loop-item.invariant.held v ∙ ap (λ xs. is_held xs c.args.lo c.args.hi v) whole))
