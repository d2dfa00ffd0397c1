use Rattle.std.proofs.Common.{arith}
use Rattle.plan_collect.specs.AgendaLaws.{job_there}
use Rattle.plan_collect.proofs.JobsLemmas.{timings_more}
use Rattle.plan_collect.proofs.timing.timings_in.Goals as goal
use Rattle.std.proofs.lemmas.Bool.Decides.{nat_tests}

pub loop-number-preserved : goal.loop-number-preserved
loop-number-preserved c = grind (arith, nat_tests, timings_more, job_there)
