use Rattle.std.proofs.Common.{arith}
use Rattle.std.proofs.lemmas.Bool.Decides.{nat_tests}
use Rattle.plan_collect.specs.AgendaLaws.{job_there}
use Rattle.plan_changes.proofs.JobLemmas.{texts_more}
use Rattle.plan_changes.proofs.job_lines.JobLines.new.Goals as goal

pub loop-number-preserved : goal.loop-number-preserved
loop-number-preserved c = grind (arith, nat_tests, texts_more, job_there)
