use Rattle.std.proofs.Common.{arith}
use Rattle.plan_collect.specs.AgendaLaws.{job_there}
use Rattle.plan_write.proofs.EndLemmas.{ends_more}
use Rattle.plan_write.proofs.line_ends.LineEnds.new.Goals as goal
use Rattle.std.proofs.lemmas.Bool.Decides.{nat_tests}

pub loop-number-preserved : goal.loop-number-preserved
loop-number-preserved c = grind (arith, nat_tests, ends_more, job_there)
