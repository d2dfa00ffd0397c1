-- What replacing specifiers keeps.
use Rattle.std.proofs.Common.{◌≡◌, ap, ◌∙◌, map}
use Rattle.std.proofs.lemmas.Result.{IfOk-weaker}
use Rattle.plan_texts.specs.Lines.{lines}
use Rattle.plan_parts.specs.Specifiers.{expanded}
use Rattle.plan_parts.proofs.SpecifierLemmas.{expanded_lines, expanded_unmarked}
use Rattle.plan_parts.proofs.specifiers.expanded.Goals as goal

pub returns-clause-lines : goal.returns-clause-lines
returns-clause-lines c = λ ended.
    let name = c.args.name.now in
    let text = c.args.text.now in
    IfOk-weaker c.specifiers_replaced.result (λ read. read.items ≡ expanded name text)
    (λ read. lines read.items ≡ map (expanded name) (lines text))
    (λ read is. ap lines is ∙ expanded_lines name text ended) c.specifiers_replaced.ensures

pub returns-clause-unmarked : goal.returns-clause-unmarked
returns-clause-unmarked c = λ none.
    let name = c.args.name.now in
    let text = c.args.text.now in
    IfOk-weaker c.specifiers_replaced.result (λ read. read.items ≡ expanded name text) (λ read. read.items ≡ text)
    (λ read is. is ∙ expanded_unmarked name text none) c.specifiers_replaced.ensures
