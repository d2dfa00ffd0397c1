use Rattle.std.proofs.Common.{arith}
use Rattle.std.proofs.lemmas.Grind.{common_steps}
use Rattle.plan_services.proofs.PlannedLemmas.{other_then, planned_then}
use Rattle.plan_services.proofs.planned.planned_timers.Goals as goal

pub loop-source-preserved : goal.loop-source-preserved
loop-source-preserved g c = record {
  planned = grind (arith, common_steps, planned_then);
  others = grind (arith, common_steps, other_then);
}
