use Rattle.plan_write.proofs.quiet.latest_start_of.Goals as goal
use Rattle.std.proofs.Common.{arith}
use Rattle.std.proofs.lemmas.Bool.Decides.{nat_tests}
use Rattle.std.proofs.lemmas.Grind.{common_steps}

pub returns-in-Some : goal.returns-in-Some
returns-in-Some c = grind (arith, nat_tests, common_steps)

pub returns-in-None : goal.returns-in-None
returns-in-None c = grind (arith, nat_tests, common_steps)
