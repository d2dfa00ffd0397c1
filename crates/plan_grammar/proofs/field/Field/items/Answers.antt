-- Answers the one clause of `Field::items`: the items are `items_reading` of the text.
-- The loop's invariant: the pieces so far, read by `item_reading`, are the items so far. The split yields the pieces
-- between commas; `each-step` adds an item, `each-turn` ends at an error, and `each-end` at the last piece.
use Rattle.std.proofs.Common.{rules, tests, ◌==◌, sym, ◌∙◌}
use Rattle.std.proofs.lemmas.Result.{err_from_is_err_and}
use Rattle.std.proofs.lemmas.Iterator.Consumers.{YieldsList-at}
use Rattle.std.proofs.lemmas.Iterator.Splits.{YieldsList-from_slice_split}
use Rattle.plan_grammar.specs.Cron.{item_reading, items_reading}
use Rattle.plan_texts.specs.EachLaws.{each-step, each-turn, each-end}
use Rattle.plan_grammar.proofs.field.Field.items.Goals as goal
use Rattle.std.proofs.Common.{arith}
use Rattle.std.proofs.lemmas.Bool.Decides.{nat_tests}
use Rattle.std.proofs.lemmas.Grind.{common_steps}

pub loop-element-preserved : goal.loop-element-preserved
loop-element-preserved c = grind (arith, nat_tests, common_steps, each-step)

pub returns-in_err-item : goal.returns-in_err-item
unfolding items_reading
returns-in_err-item c =
    let p = err_from_is_err_and c.from_residual.result c.from_residual.ensures.1 in
    rw (p.1, p.2)
    (λ kept. each-turn (item_reading c.args.self)
    (YieldsList-at c.into_iter-element-iterator.ensures.into_iter_gives
    (YieldsList-from_slice_split _ (λ b. b == 44) c.args.text.now c.split-element-items.ensures.rest
    c.split-element-items.ensures.done c.split-element-items.ensures.closure (λ x r q k. search (rules, tests))))
    c.loop-element.yielded _ c.loop-element.yielded_by _ _ c.in-Some.element c.in-Some.is c.next.ensures.steps
    c.loop-element.items.items _ c.loop-element.invariant.2 (sym c.item.ensures ∙ c.in_err-item.was))

pub returns : goal.returns
unfolding items_reading
returns c =
    each-end (item_reading c.args.self)
    (YieldsList-at c.into_iter-element-iterator.ensures.into_iter_gives
    (YieldsList-from_slice_split _ (λ b. b == 44) c.args.text.now c.split-element-items.ensures.rest
    c.split-element-items.ensures.done c.split-element-items.ensures.closure (λ x r q k. search (rules, tests))))
    c.loop-element.yielded _ c.loop-element.yielded_by _ _ c.in-None.is c.next.ensures.steps c.loop-element.items.items
    c.loop-element.invariant.2
