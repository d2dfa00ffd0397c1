use Rattle.std.proofs.Common.{arith}
use Rattle.plan_collect.specs.AgendaLaws.{job_there}
use Rattle.plan_collect.proofs.NextsLemmas.{nexts_more}
use Rattle.plan_collect.proofs.upcoming.nexts_of.Goals as goal
use Rattle.std.proofs.lemmas.Bool.Decides.{nat_tests}

pub loop-number-preserved : goal.loop-number-preserved
loop-number-preserved c = grind (arith, nat_tests, nexts_more, job_there)
