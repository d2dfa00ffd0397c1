use Rattle.plan_units.proofs.unit.+unit_within.Given as goal

abbrev pub decreases-unit_within : goal.decreases-unit_within
decreases-unit_within g l = l.names
