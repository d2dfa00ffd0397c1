use Rattle.std.proofs.Common.{ℕ, List, [], ◌∷◌, subst, take, take_all}
use Rattle.std.specs.Prelude.{codes}
use Rattle.agenda_table.proofs.RowLemmas.{pieces_more}
use Rattle.agenda_downtime.specs.Rows.{MissedTexts, downtime_cells, downtime_row, downtime_rows}
use Rattle.agenda_downtime.proofs.table.DowntimeTableRows.put_rows.Goals as goal

pub loop-row-preserved : goal.loop-row-preserved
loop-row-preserved g c =
    let look = c.args.self.now.look.now in
    let rows = c.args.self.now.rows.now in
    let i = c.loop-row.row-index in
    let head = downtime_cells (codes "FIRST") (codes "LAST") (codes "COUNT") (codes "THEN") (codes "JOB") (codes "RUNS") in
    let cells = λ (row : MissedTexts). downtime_row look row ∷ [] in
    let row : MissedTexts = c.row-item.result in
    subst (λ (put : List (List (List ℕ))). g.K.RowSink.takes c.args.sink.now c.put_job.new.sink (head ∷ put))
    (pieces_more cells rows i row row c.loop-row-test.true c.row-item.is)
    (g.met.K.RowSink.takes_both c.args.sink.now c.loop-row.sink c.put_job.new.sink (downtime_rows look (take i rows)) (cells row)
    c.loop-row.invariant c.put_job.ensures)

pub returns : goal.returns
returns g c =
    subst (λ (rows : List MissedTexts). g.K.RowSink.takes c.args.sink.now c.loop-row.sink (downtime_rows c.args.self.now.look.now rows))
    (take_all c.loop-row.row-index c.args.self.now.rows.now c.loop-row-test.false)
    c.loop-row.invariant
