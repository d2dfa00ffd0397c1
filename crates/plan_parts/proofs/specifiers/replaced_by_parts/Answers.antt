-- The text of an instance has its specifiers replaced.
use Rattle.std.proofs.Common.{◌≡◌, ap, sym, ◌∙◌}
use Rattle.std.proofs.lemmas.Result.{IfOk-weaker}
use Rattle.plan_parts.specs.NameParts.{parts_of}
use Rattle.plan_parts.specs.Specifiers.{expanded_by}
use Rattle.plan_parts.proofs.SpecifierLemmas.{expanded_instance, filled}
use Rattle.plan_parts.proofs.specifiers.replaced_by_parts.Goals as goal

pub returns : goal.returns
returns c =
    let name = c.args.name.now in
    let text = c.args.text.now in
    let prefix = c.in-Some.prefix.now in
    let instance = c.in-Some.instance.now in
    let whole = ap (λ n. filled n c.as_bytes-2.result.now c.as_bytes-3.result.now text) c.as_bytes.ensures.value
    ∙ ap (λ p. filled name p c.as_bytes-3.result.now text) c.as_bytes-2.ensures.value
    ∙ ap (λ i. filled name prefix i text) c.as_bytes-3.ensures.value
    ∙ expanded_instance name prefix instance c.in-Some.field-0-2.now text c.in-Some.ensures
    (sym c.is_empty.ensures ∙ c.if-is_empty.false) in
    IfOk-weaker c.replaced.result (λ read. read.items ≡ filled c.as_bytes.result.now c.as_bytes-2.result.now c.as_bytes-3.result.now text)
    (λ read. read.items ≡ expanded_by name (parts_of name) text) (λ read is. is ∙ whole) c.replaced.ensures
