use Rattle.std.proofs.Common.{ℕ, List, [], ◌∷◌, subst, take, take_all}
use Rattle.std.specs.Prelude.{codes}
use Rattle.agenda_table.proofs.RowLemmas.{pieces_more}
use Rattle.agenda_describe.specs.Texts.{description_cells, description_row, description_rows}
use Rattle.agenda_describe.specs.declared.jobs.DescribedJob.{DescribedJob}
use Rattle.agenda_describe.proofs.table.DescriptionRowsRows.put_rows.Goals as goal

pub loop-job-preserved : goal.loop-job-preserved
loop-job-preserved g c =
    let jobs = c.args.self.now.jobs.now in
    let i = c.loop-job.job-index in
    let head = description_cells (codes "JOB") (codes "STARTS") (codes "RUNS") in
    let row = λ (job : DescribedJob). description_row job ∷ [] in
    let job : DescribedJob = c.job-item.result in
    subst (λ (rows : List (List (List ℕ))). g.K.RowSink.takes c.args.sink.now c.put_job.new.sink (head ∷ rows))
    (pieces_more row jobs i job job c.loop-job-test.true c.job-item.is)
    (g.met.K.RowSink.takes_both c.args.sink.now c.loop-job.sink c.put_job.new.sink (description_rows (take i jobs)) (row job)
    c.loop-job.invariant c.put_job.ensures)

pub returns : goal.returns
returns g c =
    subst (λ (jobs : List DescribedJob). g.K.RowSink.takes c.args.sink.now c.loop-job.sink (description_rows jobs))
    (take_all c.loop-job.job-index c.args.self.now.jobs.now c.loop-job-test.false)
    c.loop-job.invariant
