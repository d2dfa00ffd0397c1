use Rattle.std.proofs.Common.{ap, arith, ◌∙◌}
use Rattle.std.proofs.lemmas.Bool.Decides.{nat_tests}
use Rattle.std.specs.Prelude.{option_copied}
use Rattle.plan_collect.specs.AgendaLaws.{job_there}
use Rattle.plan_write.specs.Scripts.{scripts_of}
use Rattle.plan_write.proofs.EndLemmas.{file_there, filed_more}
use Rattle.plan_write.proofs.scripts.JobScripts.new.Goals as goal
use Rattle.plan_write.proofs.scripts.JobScripts.new.Goals.{in-Some+in_ok-new+in_ok-push, in_default}

pub loop-number-preserved : goal.loop-number-preserved
loop-number-preserved c =
    elim c.match-get.branch [
      | in-Some+in_ok-new+in_ok-push w ↦
          let found = w.get-in-Some.ensures.lookup in
          let there = file_there c.args.files.now c.loop-number.number w.get-in-Some.result found.0 found.1 in
          ap (λ scripts. scripts.items) w.scripts-is ∙ w.in_ok-push.ensures.items
          ∙ filed_more scripts_of c.args.files.now c.args.jobs.now c.loop-number.number w.in-Some.job.now
          (option_copied w.get-in-Some.result) c.loop-number.scripts.items w.in_ok-new.field-0 c.loop-number.invariant w.in-Some.ensures there
          w.in_ok-new.ensures
      | in_default w ↦ grind (arith, nat_tests, job_there)
    ]
