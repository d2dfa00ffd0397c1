-- Answers the one clause of `weekday_items`, on the text that `without_comma` leaves.
-- The loop's invariant: the pieces so far, read by `weekday_item`, are the items so far. The split yields the pieces
-- between commas; `each-step` adds an item, `each-turn` ends at an error, and `each-end` at the last piece.
use Rattle.std.proofs.Common.{rules, tests, ◌==◌, ap, sym, ◌∙◌}
use Rattle.std.proofs.lemmas.Result.{err_from_is_err_and}
use Rattle.std.proofs.lemmas.Iterator.Consumers.{YieldsList-at}
use Rattle.std.proofs.lemmas.Iterator.Splits.{YieldsList-from_slice_split}
use Rattle.std.specs.List.{slice_split}
use Rattle.plan_texts.specs.Steps.{each}
use Rattle.plan_grammar.specs.Event.{weekday_item, weekday_items}
use Rattle.plan_texts.specs.EachLaws.{each-step, each-turn, each-end}
use Rattle.plan_grammar.proofs.weekdays.weekday_items.Goals as goal
use Rattle.std.proofs.Common.{arith}
use Rattle.std.proofs.lemmas.Bool.Decides.{nat_tests}

pub loop-element-preserved : goal.loop-element-preserved
loop-element-preserved c = grind (arith, nat_tests, each-step)

pub returns-in_err-weekday_item : goal.returns-in_err-weekday_item
unfolding weekday_items
returns-in_err-weekday_item c =
    let p = err_from_is_err_and c.from_residual.result c.from_residual.ensures.1 in
    rw (p.1, p.2)
    (λ kept. ap (λ text. each weekday_item (slice_split (λ b. b == 44) text)) (sym c.without_comma.ensures)
    ∙ each-turn weekday_item
    (YieldsList-at c.into_iter-element-iterator.ensures.into_iter_gives
    (YieldsList-from_slice_split _ (λ b. b == 44) c.without_comma.result.now c.split-element-items.ensures.rest
    c.split-element-items.ensures.done c.split-element-items.ensures.closure (λ x r q k. search (rules, tests))))
    c.loop-element.yielded _ c.loop-element.yielded_by _ _ c.in-Some.element c.in-Some.is c.next.ensures.steps
    c.loop-element.items.items _ c.loop-element.invariant.2 (sym c.weekday_item.ensures ∙ c.in_err-weekday_item.was))

pub returns : goal.returns
unfolding weekday_items
returns c =
    ap (λ text. each weekday_item (slice_split (λ b. b == 44) text)) (sym c.without_comma.ensures)
    ∙ each-end weekday_item
    (YieldsList-at c.into_iter-element-iterator.ensures.into_iter_gives
    (YieldsList-from_slice_split _ (λ b. b == 44) c.without_comma.result.now c.split-element-items.ensures.rest
    c.split-element-items.ensures.done c.split-element-items.ensures.closure (λ x r q k. search (rules, tests))))
    c.loop-element.yielded _ c.loop-element.yielded_by _ _ c.in-None.is c.next.ensures.steps c.loop-element.items.items
    c.loop-element.invariant.2
