-- At the last return the text has five fields at its start.
use Rattle.std.proofs.Common.{◌≡◌, ℕ, ◌==◌, false, List, Ok, refl, ap, sym, ◌∙◌}
use Rattle.std.specs.Str.{byte}
use Rattle.plan_match.specs.declared.rule.Rule.{Rule}
use Rattle.plan_texts.specs.Text.{begins_with}
use Rattle.plan_grammar.specs.Cron.{five_fields, fields_in_front, rule_in_front}
use Rattle.plan_grammar.proofs.cron.rule_in_front.Goals as goal

-- the rule of five fields
of_fields :
    (text : List ℕ) (fields : List (List ℕ)) (rest : List ℕ) (rule : Rule) →
    begins_with (λ b. b == byte "@") text ≡ false → fields_in_front text ≡ Ok (fields, rest) → five_fields fields ≡ Ok rule →
    rule_in_front text ≡ Ok (rule, rest)
unfolding rule_in_front
of_fields text fields rest rule other cut read = rw (other, cut, read) refl

pub returns : goal.returns
returns c =
    of_fields c.args.text.now _ c.in_ok-fields.rest.now _
    (ap (begins_with (λ b. b == byte "@")) (sym c.as_bytes.ensures.value) ∙ sym c.begins_with.ensures ∙ c.if-begins_with.false)
    c.in_ok-fields.ensures c.in_ok-five_fields.ensures
