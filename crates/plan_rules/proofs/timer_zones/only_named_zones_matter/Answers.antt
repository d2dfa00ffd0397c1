use Rattle.plan_rules.proofs.TimerZonesLemmas.{zones_law}
use Rattle.plan_rules.proofs.timer_zones.only_named_zones_matter.Goals as goal

pub returns : goal.returns
returns c = zones_law
