use Rattle.std.proofs.Common.{ℕ, List, codes, ◌++◌, refl, subst}
use Rattle.std.specs.Prelude.{◌-◌, length}
use Rattle.plan_streams.proofs.StreamLemmas.{takes_both}
use Rattle.plan_streams.specs.Writer.{Takes}
use Rattle.agenda_table.specs.Layout.{joined}
use Rattle.agenda_table.specs.Room.{shown_bytes}
use Rattle.agenda_table.specs.Widths.{width_at}
use Rattle.agenda_table.proofs.RoomLemmas.{kept_all}
use Rattle.agenda_table.proofs.line.put_whole.Goals as goal

pub returns : goal.returns
returns g c =
    let line : List ℕ = joined (width_at c.args.widths.now) (length c.args.row.now - 1) 0 c.args.row.now in
    takes_both g.S.Stream.holds g.S.Stream.takes_all c.args.lines.now c.put_row.new.lines c.put.new.self
    (shown_bytes c.args.terminal line) (codes "\n") (shown_bytes c.args.terminal line ++ codes "\n")
    (subst (λ (text : List ℕ). Takes g.S.Stream.holds g.S.Stream.takes_all c.args.lines.now c.put_row.new.lines
    (shown_bytes c.args.terminal text)) (kept_all line) c.put_row.ensures) c.put.ensures refl
