-- Answers the clauses `value`, `again`, `first` and `nowhere` of `cut`.
-- The loop's invariant: the cut of the text is the cut of the rest, with the bytes that were passed put before it; and
-- the mark is at no place that was passed. `take_rest` turns the slices of the code into `drop`.
use Rattle.std.proofs.Common.{◌≡◌, ◌-◌, nat_eq, length, take, drop, Some, true, false, ap, sym, ◌∙◌, below_more}
use Rattle.std.proofs.lemmas.List.{take_rest}
use Rattle.std.specs.List.{starts_with}
use Rattle.plan_texts.specs.Text.{stands_at}
use Rattle.plan_texts.proofs.TextLemmas.{cut_more, cut_found, cut_all, again}
use Rattle.plan_texts.proofs.parts.cut.Goals as goal
use Rattle.std.proofs.Common.{arith}
use Rattle.std.proofs.lemmas.Bool.Decides.{nat_tests}
use Rattle.std.proofs.lemmas.Grind.{common_steps}

pub loop-at-preserved : goal.loop-at-preserved
loop-at-preserved c =
    let text = c.args.text.now in
    let at = c.loop-at.at in
    let later : stands_at c.args.mark.now text at ≡ false =
    ap (λ rest. starts_with nat_eq rest c.args.mark.now) (sym (take_rest text at)) ∙ sym c.starts_with.ensures.value
    ∙ c.if-starts_with.false in
    record {
      so_far = cut_more c.args.mark.now text at c.loop-at-test.true later c.loop-at.invariant.so_far;
      nowhere = below_more _ _ c.loop-at.invariant.nowhere later;
    }

pub returns-then-starts_with-clause-value : goal.returns-then-starts_with-clause-value
returns-then-starts_with-clause-value c =
    let mark = c.args.mark.now in
    let text = c.args.text.now in
    let at = c.loop-at.at in
    let whole = take_rest text at in
    ap (λ tail. Some (take at text, tail))
    (take_rest (take (length text - at) (drop at text)) (length mark) ∙ ap (drop (length mark)) whole)
    ∙ sym (cut_found mark text at c.loop-at-test.true
    (ap (λ rest. starts_with nat_eq rest mark) (sym whole) ∙ sym c.starts_with.ensures.value ∙ c.if-starts_with.true)
    c.loop-at.invariant.so_far)

pub returns-then-starts_with-clause-again : goal.returns-then-starts_with-clause-again
returns-then-starts_with-clause-again c = grind (arith, nat_tests, common_steps, take_rest, again)

pub returns-clause-value : goal.returns-clause-value
returns-clause-value c = sym (cut_all c.args.mark.now c.args.text.now c.loop-at.at c.loop-at-test.false c.loop-at.invariant.so_far)
