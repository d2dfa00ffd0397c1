use Rattle.std.proofs.Common.{◌∙◌, ℕ, List, subst}
use Rattle.plan_streams.specs.Writer.{Takes}
use Rattle.agenda_table.proofs.RoomLemmas.{shown_at_once}
use Rattle.agenda_table.proofs.room.put_uncut.Goals as goal

pub returns-then-is_plain : goal.returns-then-is_plain
returns-then-is_plain g c =
    subst (λ (bytes : List ℕ). Takes g.S.Stream.holds g.S.Stream.takes_all c.args.lines.now c.put.new.self bytes)
    (c.as_bytes.ensures.value ∙ shown_at_once c.args.terminal c.args.text.now c.utf8.text (c.is_plain.ensures c.if-is_plain.true))
    c.put.ensures
