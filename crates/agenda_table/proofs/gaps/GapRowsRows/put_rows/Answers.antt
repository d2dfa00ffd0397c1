use Rattle.std.proofs.Common.{◌∙◌, ℕ, List, [], ◌∷◌, get_or, refl, subst, take, take_all}
use Rattle.std.specs.Prelude.{codes}
use Rattle.agenda_table.specs.Rows.{distance_head, gap_cells, gap_row, gap_rows}
use Rattle.agenda_table.proofs.RowLemmas.{pieces_more}
use Rattle.agenda_table.proofs.gaps.GapRowsRows.put_rows.Goals as goal

pub loop-from-preserved : goal.loop-from-preserved
loop-from-preserved g c =
    let look = c.args.self.now.look.now in
    let gaps = c.as_slice-from-items.result.now in
    let i = c.loop-from.from-index in
    let head = gap_cells (codes "START") (codes "END") (distance_head look.origin) (codes "LENGTH") in
    let row = λ (gap : ℕ × ℕ). gap_row look gap ∷ [] in
    let gap : ℕ × ℕ = get_or gaps i (0, 0) in
    subst (λ (rows : List (List (List ℕ))). g.K.RowSink.takes c.args.sink.now c.put_gap.new.sink (head ∷ rows))
    (pieces_more row gaps i gap (0, 0) c.loop-from-test.true refl)
    (g.met.K.RowSink.takes_both c.args.sink.now c.loop-from.sink c.put_gap.new.sink (gap_rows look (take i gaps)) (row gap)
    c.loop-from.invariant c.put_gap.ensures)

pub returns : goal.returns
returns g c =
    subst (λ (gaps : List (ℕ × ℕ)). g.K.RowSink.takes c.args.sink.now c.loop-from.sink (gap_rows c.args.self.now.look.now gaps))
    (take_all c.loop-from.from-index c.as_slice-from-items.result.now c.loop-from-test.false ∙ c.as_slice-from-items.ensures.gaps)
    c.loop-from.invariant
