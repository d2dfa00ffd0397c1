use Rattle.std.proofs.Common.{◌≡◌, ℕ, List, [], ◌++◌, codes, refl, rules, subst}
use Rattle.std.specs.List.{flat_map}
use Rattle.std.specs.Str.{chars}
use Rattle.plan_streams.proofs.StreamLemmas.{takes_both}
use Rattle.plan_streams.specs.Writer.{Takes}
use Rattle.agenda_table.specs.Layout.{line_text, table_text, widest}
use Rattle.agenda_table.specs.Room.{shown_bytes}
use Rattle.agenda_table.specs.Widths.{width_at}
use Rattle.agenda_table.proofs.RoomLemmas.{kept_all}
use Rattle.agenda_table.proofs.TableLemmas.{widths_whole}
use Rattle.agenda_table.proofs.table.write_table.Goals as goal

pub returns-clause-text : goal.returns-clause-text
returns-clause-text g c =
    let holds = g.S.Stream.holds in
    let takes_all = g.S.Stream.takes_all in
    let frame = c.args.frame in
    let rows : List (List (List ℕ)) = g.T.Rows.rows c.args.table.now in
    let widths = c.put_rows.new.sink in
    let last : List ℕ = shown_bytes frame.terminal (chars c.args.last.now) in
    let lines : List ℕ = flat_map (line_text frame.columns frame.terminal (widest rows)) rows in
    let text = table_text frame.columns frame.terminal rows (chars c.args.last.now) in
    let same_widths : width_at widths ≡ widest rows = widths_whole rows widths c.requires (c.put_rows.ensures [] c.new-widths.ensures) in
    let first = subst (λ (at : ℕ → ℕ). Takes holds takes_all c.new.result c.put_rows-2.new.sink.lines
    (flat_map (line_text frame.columns frame.terminal at) rows)) same_widths c.put_rows-2.ensures.2 in
    let second = subst (λ (text : List ℕ). Takes holds takes_all c.put_rows-2.new.sink.lines c.put_text.new.lines
    (shown_bytes frame.terminal text)) (kept_all (chars c.args.last.now)) c.put_text.ensures.text in
    let end = takes_both holds takes_all c.put_rows-2.new.sink.lines c.put_text.new.lines c.put.new.self last (codes "\n")
    (last ++ codes "\n") second c.put.ensures refl in
    let takes = takes_both holds takes_all c.new.result c.put_rows-2.new.sink.lines c.put.new.self lines (last ++ codes "\n") text
    first end refl in
    let same : c.finish.new.self.out.now ≡ c.out-1.given.0 = search rules in
    rw same at (c.finish.ensures.texts.1 (holds c.args.out.now) text (takes.1 (holds c.args.out.now) [] c.new.ensures.1))
