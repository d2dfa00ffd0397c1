-- Before the first job none is in the zone.
use Rattle.std.proofs.Common.{refl}
use Rattle.plan_rules.proofs.jobs.Jobs.in_zone.Goals as goal

pub loop-number-init : goal.loop-number-init
loop-number-init c = record { so_far = refl; len = refl }
