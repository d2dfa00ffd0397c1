use Rattle.std.proofs.Common.{get_or, take, refl, subst, sym}
use Rattle.std.specs.List.{flat_map}
use Rattle.plan_streams.proofs.StreamLemmas.{takes_none}
use Rattle.plan_streams.specs.Writer.{Takes}
use Rattle.plan_write.specs.Json.{text_in}
use Rattle.plan_write.proofs.TakesLemmas.{texts_more}
use Rattle.agenda_findings.specs.Quotes.{escaped}
use Rattle.agenda_findings.proofs.TextLemmas.{takes_texts, text_in_none}
use Rattle.agenda_findings.proofs.quotes.put_escaped.Goals as goal

pub loop-byte-init : goal.loop-byte-init
loop-byte-init g c =
    subst (Takes g.S.Stream.holds g.S.Stream.takes_all c.args.lines.now c.args.lines.now) (sym (text_in_none c.args.json))
    (takes_none g.S.Stream.holds g.S.Stream.takes_all c.args.lines.now)

pub loop-byte-preserved : goal.loop-byte-preserved
loop-byte-preserved g c =
    let text = c.args.text.now in
    let i = c.loop-byte.byte-index in
    let byte = get_or text i 0 in
    subst (λ text. Takes g.S.Stream.holds g.S.Stream.takes_all c.args.lines.now c.put_escaped_byte.new.lines (text_in c.args.json text))
    (texts_more escaped text i byte 0 c.loop-byte-test.true refl)
    (takes_texts g.S.Stream.holds g.S.Stream.takes_all c.args.json c.args.lines.now c.loop-byte.lines c.put_escaped_byte.new.lines
    (flat_map escaped (take i text)) (escaped byte) c.loop-byte.invariant c.put_escaped_byte.ensures)
