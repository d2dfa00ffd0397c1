use Rattle.std.proofs.Common.{arith}
use Rattle.std.proofs.lemmas.Grind.{common_steps}
use Rattle.plan_machine.proofs.machine.timer_sources.Goals as goal

pub loop-timer-preserved : goal.loop-timer-preserved
loop-timer-preserved c = grind (arith, common_steps)
