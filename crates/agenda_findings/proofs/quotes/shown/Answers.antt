use Rattle.std.proofs.Common.{sym, ◌∙◌}
use Rattle.agenda_findings.proofs.MessageLemmas.{shown_all, shown_cut}
use Rattle.agenda_findings.proofs.quotes.shown.Goals as goal

pub returns-then-text-le-MOST_SHOWN : goal.returns-then-text-le-MOST_SHOWN
returns-then-text-le-MOST_SHOWN c = sym (shown_all c.args.text.now c.if-text-le-MOST_SHOWN.true)

pub returns : goal.returns
returns c =
    c.range.ensures.value
    ∙ sym (shown_cut c.args.text.now c.floor_char_boundary.result c.if-text-le-MOST_SHOWN.false c.floor_char_boundary.ensures.bound
    c.floor_char_boundary.ensures.boundary c.floor_char_boundary.ensures.nearest)
