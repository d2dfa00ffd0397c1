use Rattle.std.proofs.Common.{◌≡◌, ◌∙◌, ap, subst, sym, List, ℕ, Bor, false, true≢false}
use Rattle.plan_texts.specs.Lines.{is_too_large, lines}
use Rattle.plan_texts.specs.Steps.{GivesUnless}
use Rattle.agenda_script.specs.Script.{Meaning, ScriptReading, lines_reading, meaning_of, memory_fault}
use Rattle.agenda_script.proofs.ScriptLemmas.{is_text, no_text_read, text_read, texts}
use Rattle.agenda_script.proofs.reader.read_script.Goals as goal

pub returns-in_default-clause-meaning : goal.returns-in_default-clause-meaning
returns-in_default-clause-meaning c =
    let few : is_too_large c.args.script.now ≡ false = sym c.is_too_large.ensures ∙ c.if-is_too_large.false in
    rw c.fault_on-in_default.ensures (λ kept. no_text_read c.args.script.now few c.in_default.ensures.cases.0)

pub returns-clause-meaning : goal.returns-clause-meaning
returns-clause-meaning c =
    let few : is_too_large c.args.script.now ≡ false = sym c.is_too_large.ensures ∙ c.if-is_too_large.false in
    subst (λ (reading : ScriptReading Meaning). GivesUnless memory_fault meaning_of c.read_lines.result reading)
    (ap (λ (found : List (Bor (List ℕ))). lines_reading (texts found)) c.as_slice.ensures.value
    ∙ ap lines_reading (c.in_ok-lines.ensures.value ∙ ap lines c.in-Ok.ensures.cases.0)
    ∙ sym (text_read c.args.script.now few c.in-Ok.ensures.cases.1))
    c.read_lines.ensures.meaning

pub returns-clause-too_large : goal.returns-clause-too_large
returns-clause-too_large c = λ large. absurd (true≢false (sym large ∙ sym c.is_too_large.ensures ∙ c.if-is_too_large.false))

pub returns-clause-not_utf8 : goal.returns-clause-not_utf8
returns-clause-not_utf8 c = λ few none. absurd (is_text c.args.script.now c.in-Ok.ensures.cases.1 none)

pub returns-in_err-lines-clause-not_utf8 : goal.returns-in_err-lines-clause-not_utf8
returns-in_err-lines-clause-not_utf8 c = λ few none. absurd (is_text c.args.script.now c.in-Ok.ensures.cases.1 none)
