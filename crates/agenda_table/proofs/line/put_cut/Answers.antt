use Rattle.std.proofs.Common.{ℕ, List, [], ◌∷◌, codes, ◌++◌, refl, subst, sym}
use Rattle.std.specs.Prelude.{◌-◌, length}
use Rattle.plan_streams.proofs.StreamLemmas.{takes_both}
use Rattle.plan_streams.specs.Writer.{Takes}
use Rattle.agenda_table.specs.Layout.{cut, joined}
use Rattle.agenda_table.specs.Room.{kept, shown_bytes}
use Rattle.agenda_table.specs.Widths.{width_at}
use Rattle.agenda_table.specs.declared.room.Room.TheVariants.{Left}
use Rattle.agenda_table.proofs.RoomLemmas.{shown_both}
use Rattle.agenda_table.proofs.line.put_cut.Goals as goal

pub returns : goal.returns
returns g c =
    let holds = g.S.Stream.holds in
    let takes_all = g.S.Stream.takes_all in
    let terminal = c.args.terminal in
    let line : List ℕ = joined (width_at c.args.widths.now) (length c.args.row.now - 1) 0 c.args.row.now in
    let front : List ℕ = kept (Left (c.args.columns - 1)) line in
    let row = subst (λ (n : ℕ). Takes holds takes_all c.args.lines.now c.put_row.new.lines
    (shown_bytes terminal (kept (Left n) line))) c.saturating_sub.ensures c.put_row.ensures in
    let whole = takes_both holds takes_all c.args.lines.now c.put_row.new.lines c.put_char.new.lines
    (shown_bytes terminal front) (shown_bytes terminal (0x2026 ∷ [])) (shown_bytes terminal (cut c.args.columns line)) row
    c.put_char.ensures.text (sym (shown_both terminal front (0x2026 ∷ []))) in
    takes_both holds takes_all c.args.lines.now c.put_char.new.lines c.put.new.self (shown_bytes terminal (cut c.args.columns line))
    (codes "\n") (shown_bytes terminal (cut c.args.columns line) ++ codes "\n") whole c.put.ensures refl
