use Rattle.plan_sets.proofs.moment.Fields.second.Goals as goal

pub returns-clause-some : goal.returns-clause-some
returns-clause-some c = c.second_from_epoch.ensures.some

pub returns-clause-number : goal.returns-clause-number
returns-clause-number c = c.second_from_epoch.ensures.number
