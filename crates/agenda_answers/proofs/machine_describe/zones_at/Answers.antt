use Rattle.agenda_answers.proofs.machine_describe.zones_at.Goals as goal

pub returns : goal.returns
returns g c = rw c.utc.ensures at c.zones_of_rule.ensures.read
