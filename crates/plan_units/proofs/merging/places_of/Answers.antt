use Rattle.std.proofs.Common.{arith}
use Rattle.std.proofs.lemmas.Grind.{common_steps}
use Rattle.plan_units.proofs.merging.places_of.Goals as goal

pub loop-dir-preserved : goal.loop-dir-preserved
loop-dir-preserved c = grind (arith, common_steps)
