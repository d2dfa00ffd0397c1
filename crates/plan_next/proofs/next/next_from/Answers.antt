use Rattle.plan_next.specs.StartsLaws.{passing-first}
use Rattle.plan_next.proofs.next.next_from.Goals as goal
use Rattle.std.proofs.Common.{arith}
use Rattle.std.proofs.lemmas.Bool.Decides.{nat_tests}
use Rattle.std.proofs.lemmas.Grind.{common_steps}

pub returns-clause-first : goal.returns-clause-first
returns-clause-first c = grind (arith, nat_tests, common_steps, passing-first)
