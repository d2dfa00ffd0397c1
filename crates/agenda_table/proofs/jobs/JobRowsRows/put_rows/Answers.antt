use Rattle.std.proofs.Common.{ℕ, List, ◌∷◌, subst, take, take_all}
use Rattle.std.specs.Prelude.{slice_get}
use Rattle.plan_write.specs.Upcoming.{start_or_none}
use Rattle.agenda_table.specs.Rows.{job_head, job_rows, rows_of_job}
use Rattle.agenda_table.proofs.RowLemmas.{pieces_more}
use Rattle.agenda_table.proofs.jobs.JobRowsRows.put_rows.Goals as goal

pub loop-start-preserved : goal.loop-start-preserved
loop-start-preserved g c =
    let table = c.args.self.now in
    let starts = table.starts.now in
    let head = job_head table.look.now.origin table.delays in
    let row = λ (start : ℕ × ℕ). rows_of_job table.look.now table.delays (start_or_none start.0) (slice_get table.jobs.now start.1) in
    let so_far = job_rows table.look.now table.delays (take c.loop-start.start-index starts) table.jobs.now in
    let next = row c.start-item.result in
    subst (λ (rows : List (List (List ℕ))). g.K.RowSink.takes c.args.sink.now c.put_start.new.sink (head ∷ rows))
    (pieces_more row starts c.loop-start.start-index c.start-item.result c.start-item.result c.loop-start-test.true c.start-item.is)
    (g.met.K.RowSink.takes_both c.args.sink.now c.loop-start.sink c.put_start.new.sink so_far next c.loop-start.invariant
    c.put_start.ensures)

pub returns : goal.returns
returns g c =
    let table = c.args.self.now in
    subst (λ (starts : List (ℕ × ℕ)). g.K.RowSink.takes c.args.sink.now c.loop-start.sink
    (job_rows table.look.now table.delays starts table.jobs.now))
    (take_all c.loop-start.start-index table.starts.now c.loop-start-test.false) c.loop-start.invariant
