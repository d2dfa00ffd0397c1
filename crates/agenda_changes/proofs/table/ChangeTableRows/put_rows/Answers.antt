use Rattle.std.proofs.Common.{ℕ, List, [], ◌∷◌, subst, take, take_all}
use Rattle.std.specs.Prelude.{codes}
use Rattle.agenda_table.proofs.RowLemmas.{pieces_more}
use Rattle.agenda_changes.specs.Rows.{RunsChange, change_cells, change_row, change_rows}
use Rattle.agenda_changes.proofs.table.ChangeTableRows.put_rows.Goals as goal

pub loop-row-preserved : goal.loop-row-preserved
loop-row-preserved g c =
    let look = c.args.self.now.look.now in
    let rows = c.args.self.now.rows.now in
    let i = c.loop-row.row-index in
    let head = change_cells (codes "RUNS") (codes "BEFORE") (codes "NOW") (codes "FIRST CHANGE") in
    let cells = λ (row : RunsChange). change_row look row ∷ [] in
    let row : RunsChange = c.row-item.result in
    subst (λ (put : List (List (List ℕ))). g.K.RowSink.takes c.args.sink.now c.put_row.new.sink (head ∷ put))
    (pieces_more cells rows i row row c.loop-row-test.true c.row-item.is)
    (g.met.K.RowSink.takes_both c.args.sink.now c.loop-row.sink c.put_row.new.sink (change_rows look (take i rows)) (cells row)
    c.loop-row.invariant c.put_row.ensures)

pub returns : goal.returns
returns g c =
    subst (λ (rows : List RunsChange). g.K.RowSink.takes c.args.sink.now c.loop-row.sink (change_rows c.args.self.now.look.now rows))
    (take_all c.loop-row.row-index c.args.self.now.rows.now c.loop-row-test.false)
    c.loop-row.invariant
