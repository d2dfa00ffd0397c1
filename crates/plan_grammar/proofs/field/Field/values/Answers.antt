-- Answers the clause of `Field::values` for a text without a comma: its one item is read without a list.
use Rattle.std.proofs.Common.{◌≡◌, ◌==◌, false, sym, ◌∙◌}
use Rattle.std.proofs.lemmas.Result.{err_from_is_err_and}
use Rattle.std.specs.List.{list_any}
use Rattle.plan_grammar.specs.Cron.{field_reading}
use Rattle.plan_grammar.proofs.FieldLemmas.{one_item-values, one_item-fault, given}
use Rattle.plan_grammar.proofs.field.Field.values.Goals as goal

pub returns-in_err-item : goal.returns-in_err-item
returns-in_err-item c =
    let none : list_any (λ b. b == 44) c.args.text.now ≡ false = sym c.contains.ensures.value ∙ c.if-not-contains.true in
    let p = err_from_is_err_and c.from_residual.result c.from_residual.ensures.1 in
    rw (p.1, p.2)
    (λ kept. one_item-fault c.args.self c.args.text.now _ none (sym c.item.ensures ∙ c.in_err-item.was))

pub returns-then-not-contains : goal.returns-then-not-contains
returns-then-not-contains c =
    let none : list_any (λ b. b == 44) c.args.text.now ≡ false = sym c.contains.ensures.value ∙ c.if-not-contains.true in
    given c.set_of_items.result (field_reading c.args.self c.args.text.now)
    (one_item-values c.args.self c.args.text.now c.in_ok-item.item none (sym c.item.ensures ∙ c.in_ok-item.was)
    ∙ sym c.set_of_items.ensures)
