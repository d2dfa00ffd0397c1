-- The findings are those of the definition: of the name, and then of the text.
use Rattle.std.proofs.Common.{◌≡◌, ◌++◌, ap, ◌∙◌}
use Rattle.plan_check.specs.Files.{after_text, name_findings, text_findings}
use Rattle.plan_check.proofs.files.file_findings.Goals as goal

pub returns-clause-found : goal.returns-clause-found
returns-clause-found c =
    let name = c.args.name.now in
    let bytes = c.args.bytes.now in
    let named : c.add_name.new.found.items ≡ name_findings c.args.kind name =
    c.in_ok-add_name.ensures.found ∙ ap (λ before. before ++ name_findings c.args.kind name) c.in_ok-found.ensures.items in
    c.in_ok-add_text.ensures.found ∙ (λ i. named i ++ text_findings c.args.context.now (c.add_name.ensures.known i) c.args.kind name bytes)

pub returns-clause-known : goal.returns-clause-known
returns-clause-known c =
    c.in_ok-add_text.ensures.known
    ∙ ap (λ known. after_text c.args.context.now known c.args.kind c.args.name.now c.args.bytes.now) c.add_name.ensures.known
