use Rattle.std.proofs.Common.{arith}
use Rattle.std.proofs.lemmas.Grind.{common_steps}
use Rattle.plan_users.proofs.managers.homes_among.Goals as goal

pub loop-manager-preserved : goal.loop-manager-preserved
loop-manager-preserved c = grind (arith, common_steps)
