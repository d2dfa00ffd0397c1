use Rattle.plan_write.proofs.TakesLemmas.{takes_three}
use Rattle.plan_write.proofs.json_strings.put_string.Goals as goal
use Rattle.std.proofs.Common.{arith}
use Rattle.std.proofs.lemmas.Bool.Decides.{nat_tests}
use Rattle.std.proofs.lemmas.Grind.{common_steps}

pub returns : goal.returns
returns g c = grind (arith, nat_tests, common_steps, takes_three)
