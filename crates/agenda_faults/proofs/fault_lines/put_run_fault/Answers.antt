use Rattle.agenda_faults.proofs.fault_lines.put_run_fault.Goals as goal

pub returns-in-NoMemory : goal.returns-in-NoMemory
returns-in-NoMemory g c = rw c.in-NoMemory.is c.put.ensures

pub returns-in-BadCount : goal.returns-in-BadCount
returns-in-BadCount g c = rw c.in-BadCount.is c.put-in-BadCount.ensures

pub returns-in-Full : goal.returns-in-Full
returns-in-Full g c = rw c.in-Full.is c.put-in-Full.ensures

pub returns-in-BadLeast : goal.returns-in-BadLeast
returns-in-BadLeast g c = rw c.in-BadLeast.is c.put-in-BadLeast.ensures

pub returns-in-SameName : goal.returns-in-SameName
returns-in-SameName g c = rw (c.in-SameName.is, ← c.as_str.ensures) c.put_between.ensures
