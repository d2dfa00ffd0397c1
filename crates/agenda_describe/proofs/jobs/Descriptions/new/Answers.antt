use Rattle.std.proofs.Common.{◌∙◌, arith}
use Rattle.agenda_table.proofs.RowLemmas.{made_more}
use Rattle.agenda_describe.specs.Jobs.{described}
use Rattle.agenda_describe.proofs.JobLemmas.{job_there}
use Rattle.agenda_describe.proofs.jobs.Descriptions.new.Goals as goal
use Rattle.agenda_describe.proofs.jobs.Descriptions.new.Goals.{in-Some+in_ok-described+in_ok-push, in_default}

pub loop-number-preserved : goal.loop-number-preserved
loop-number-preserved c = elim c.match-get.branch [
  | in-Some+in_ok-described+in_ok-push w ↦
      (λ i. (w.found-is i).items) ∙ w.in_ok-push.ensures.items
      ∙ made_more (described c.args.zones.now c.args.sources.now) c.args.jobs.now c.loop-number.number w.in-Some.job.now _ _
      c.loop-number.invariant w.in-Some.ensures w.in_ok-described.ensures
  | in_default w ↦ absurd (job_there c.args.jobs.now c.loop-number.number w.in_default.ensures
      (omega (arith, c.len-number-end.ensures.len)))
]
