use Rattle.plan_write.proofs.time_fields.put_no_field.Goals as goal
use Rattle.std.proofs.Common.{arith}
use Rattle.std.proofs.lemmas.Bool.Decides.{nat_tests}
use Rattle.std.proofs.lemmas.Grind.{common_steps}

pub returns-in-None : goal.returns-in-None
returns-in-None g c = grind (arith, nat_tests, common_steps)
