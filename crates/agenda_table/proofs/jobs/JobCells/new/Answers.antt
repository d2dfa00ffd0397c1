use Rattle.std.proofs.Common.{◌∙◌, arith}
use Rattle.plan_collect.specs.AgendaLaws.{job_there}
use Rattle.agenda_table.specs.Rows.{job_texts}
use Rattle.agenda_table.proofs.RowLemmas.{made_more}
use Rattle.agenda_table.proofs.jobs.JobCells.new.Goals as goal
use Rattle.agenda_table.proofs.jobs.JobCells.new.Goals.{in-Some+in_ok-new+in_ok-push, in_default}

pub loop-number-preserved : goal.loop-number-preserved
loop-number-preserved c = elim c.match-get.branch [
  | in-Some+in_ok-new+in_ok-push w ↦
      (λ i. (w.cells-is i).items) ∙ w.in_ok-push.ensures.items
      ∙ made_more job_texts c.args.jobs.now c.loop-number.number w.in-Some.job.now _ _ c.loop-number.invariant w.in-Some.ensures
      w.in_ok-new.ensures
  | in_default w ↦ absurd (job_there c.args.jobs.now c.loop-number.number w.in_default.ensures
      (omega (arith, c.len-number-end.ensures.len)))
]
