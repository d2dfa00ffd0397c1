use Rattle.agenda_inputs.proofs.machine_zone.suggestion_for.Goals as goal

pub returns-in-NoSuchZone-clause-read : goal.returns-in-NoSuchZone-clause-read
returns-in-NoSuchZone-clause-read g c = rw c.in-NoSuchZone.is c.suggestion.ensures.read
