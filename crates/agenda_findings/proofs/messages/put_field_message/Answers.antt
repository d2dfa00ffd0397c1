use Rattle.std.proofs.Common.{◌++◌, codes, ◌∙◌}
use Rattle.agenda_findings.specs.Messages.{field_name, field_values, problem_after}
use Rattle.agenda_findings.specs.Quotes.{quoted}
use Rattle.agenda_findings.proofs.TextLemmas.{takes_texts}
use Rattle.agenda_findings.proofs.messages.put_field_message.Goals as goal

pub returns : goal.returns
returns g c =
    let json = c.args.json in
    let holds = g.S.Stream.holds in
    let takes_all = g.S.Stream.takes_all in
    let name = field_name c.args.fault.part in
    let quote = quoted c.args.quote.now in
    let problem = problem_after c.args.fault.cause (field_values c.args.fault.part) (codes "empty value, or a step after a single value") in
    takes_texts holds takes_all json c.args.lines.now c.put_text.new.lines c.put_problem_after.new.lines name
    (codes " " ++ (quote ++ problem)) (rw (c.as_bytes.ensures.value ∙ c.field_name.ensures) at c.put_text.ensures)
    (takes_texts holds takes_all json c.put_text.new.lines c.put_text-2.new.lines c.put_problem_after.new.lines (codes " ")
    (quote ++ problem) c.put_text-2.ensures
    (takes_texts holds takes_all json c.put_text-2.new.lines c.put_quoted.new.lines c.put_problem_after.new.lines quote problem
    c.put_quoted.ensures (rw c.field_values.ensures at c.put_problem_after.ensures)))
