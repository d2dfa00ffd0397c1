use Rattle.std.proofs.Common.{ap, arith, ◌∙◌}
use Rattle.std.specs.Prelude.{option_copied}
use Rattle.plan_collect.specs.AgendaLaws.{job_there}
use Rattle.plan_write.proofs.EndLemmas.{file_there, filed_more}
use Rattle.agenda_table.specs.Scripts.{job_texts_with}
use Rattle.agenda_table.proofs.jobs.JobCells.with_files.Goals as goal
use Rattle.agenda_table.proofs.jobs.JobCells.with_files.Goals.{in-Some+in_ok-with_file+in_ok-push, in_default}

pub loop-number-preserved : goal.loop-number-preserved
loop-number-preserved c =
    elim c.match-get.branch [
      | in-Some+in_ok-with_file+in_ok-push w ↦
          let found = w.get-in-Some.ensures.lookup in
          let there = file_there c.args.files.now c.loop-number.number w.get-in-Some.result found.0 found.1 in
          ap (λ cells. cells.items) w.cells-is ∙ w.in_ok-push.ensures.items
          ∙ filed_more job_texts_with c.args.files.now c.args.jobs.now c.loop-number.number w.in-Some.job.now
          (option_copied w.get-in-Some.result) c.loop-number.cells.items w.in_ok-with_file.field-0 c.loop-number.invariant w.in-Some.ensures
          there w.in_ok-with_file.ensures
      | in_default w ↦ absurd (job_there c.args.jobs.now c.loop-number.number w.in_default.ensures
          (omega (arith, c.len-number-end.ensures.len)))
    ]
