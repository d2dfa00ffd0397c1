use Rattle.agenda_faults.proofs.machine_lines.put_named_zone.Goals as goal

pub returns-in-NoMemory : goal.returns-in-NoMemory
returns-in-NoMemory g c = rw c.in-NoMemory.is c.put.ensures

pub returns-in-TooLarge : goal.returns-in-TooLarge
returns-in-TooLarge g c = rw c.in-TooLarge.is c.put_between-in-TooLarge.ensures

pub returns-in-BadZone : goal.returns-in-BadZone
returns-in-BadZone g c = rw c.in-BadZone.is c.put_between-in-BadZone.ensures
