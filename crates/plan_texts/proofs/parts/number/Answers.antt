use Rattle.std.proofs.Common.{arith, ◌≡◌, Some, None, ap, sym, ◌∙◌}
use Rattle.std.proofs.lemmas.Grind.{common_steps}
use Rattle.plan_texts.specs.Text.{decimal_number}
use Rattle.plan_texts.proofs.NumberLemmas.{decimal_number-written}
use Rattle.plan_texts.proofs.parts.number.Goals as goal

pub returns-then-is_empty-clause-written : goal.returns-then-is_empty-clause-written
unfolding decimal_number
returns-then-is_empty-clause-written c = λ n small is.
    let meant : decimal_number c.args.text.now ≡ None = grind (arith, common_steps) in
    sym meant ∙ ap decimal_number is ∙ decimal_number-written n small

pub returns-then-not-is_ascii_digit-clause-written : goal.returns-then-not-is_ascii_digit-clause-written
unfolding decimal_number
returns-then-not-is_ascii_digit-clause-written c = λ n small is.
    let meant : decimal_number c.args.text.now ≡ None = grind (arith, common_steps) in
    sym meant ∙ ap decimal_number is ∙ decimal_number-written n small

pub returns-clause-written : goal.returns-clause-written
unfolding decimal_number
returns-clause-written c = λ n small is.
    let meant : decimal_number c.args.text.now ≡ Some c.loop-byte.value = grind (arith, common_steps) in
    sym meant ∙ ap decimal_number is ∙ decimal_number-written n small
