use Rattle.std.proofs.Common.{arith}
use Rattle.std.proofs.lemmas.Grind.{common_steps}
use Rattle.plan_machine.proofs.others.at_jobs.Goals as goal

pub loop-path-preserved : goal.loop-path-preserved
loop-path-preserved g c = grind (arith, common_steps)
