use Rattle.agenda_faults.proofs.fault_lines.put_collect_fault.Goals as goal

pub returns-in-NoMemory : goal.returns-in-NoMemory
returns-in-NoMemory g c = rw c.in-NoMemory.is c.put.ensures
