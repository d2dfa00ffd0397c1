use Rattle.std.proofs.Common.{arith}
use Rattle.std.proofs.lemmas.Grind.{common_steps}
use Rattle.plan_timers.proofs.dirs.skipped_dirs.Goals as goal

pub loop-dir-preserved : goal.loop-dir-preserved
loop-dir-preserved g c = grind (arith, common_steps)
