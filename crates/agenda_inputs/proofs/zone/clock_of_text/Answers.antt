use Rattle.agenda_inputs.proofs.zone.clock_of_text.Goals as goal

pub returns-in-Ok-Path-clause-read : goal.returns-in-Ok-Path-clause-read
returns-in-Ok-Path-clause-read g c = rw (← (rw c.in-Ok-Path.field-0-is at c.in-Ok-Path.ensures)) c.clock_of_path.ensures.read

pub returns-in-Ok-Name-clause-read : goal.returns-in-Ok-Name-clause-read
returns-in-Ok-Name-clause-read g c = rw (← (rw c.in-Ok-Name.field-0-is at c.in-Ok-Name.ensures)) c.clock_of_name.ensures.read
