use Rattle.plan_threads.proofs.GatheringLemmas.{gathers_more}
use Rattle.plan_threads.proofs.desk.Desk.take.Goals as goal
use Rattle.std.proofs.Common.{arith}
use Rattle.std.proofs.lemmas.Bool.Decides.{nat_tests}
use Rattle.std.proofs.lemmas.Grind.{common_steps}

pub returns-clause-gathers : goal.returns-clause-gathers
returns-clause-gathers c = grind (arith, nat_tests, gathers_more)

pub returns-clause-accounts : goal.returns-clause-accounts
returns-clause-accounts c = grind (arith, nat_tests, common_steps)
