use Rattle.std.proofs.Common.{◌++◌, codes, ◌∙◌}
use Rattle.std.specs.List.{flat_map}
use Rattle.agenda_findings.specs.Quotes.{dots, escaped, quoted, shown}
use Rattle.agenda_findings.proofs.TextLemmas.{takes_texts}
use Rattle.agenda_findings.proofs.quotes.put_quoted.Goals as goal

pub returns : goal.returns
unfolding quoted
returns g c =
    let json = c.args.json in
    let holds = g.S.Stream.holds in
    let takes_all = g.S.Stream.takes_all in
    let mark = codes "'" in
    let inside = flat_map escaped (shown c.args.text.now) in
    let after = dots c.args.text.now in
    takes_texts holds takes_all json c.args.lines.now c.put_text.new.lines c.put_text-3.new.lines mark (inside ++ (mark ++ after))
    c.put_text.ensures
    (takes_texts holds takes_all json c.put_text.new.lines c.put_escaped.new.lines c.put_text-3.new.lines inside (mark ++ after)
    (rw (c.as_bytes.ensures.value ∙ c.shown.ensures) at c.put_escaped.ensures)
    (takes_texts holds takes_all json c.put_escaped.new.lines c.put_text-2.new.lines c.put_text-3.new.lines mark after
    c.put_text-2.ensures (rw (c.as_bytes-2.ensures.value ∙ c.dots.ensures) at c.put_text-3.ensures)))
