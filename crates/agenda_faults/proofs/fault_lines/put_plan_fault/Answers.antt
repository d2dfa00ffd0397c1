use Rattle.agenda_faults.proofs.fault_lines.put_plan_fault.Goals as goal

pub returns-in-NoMemory : goal.returns-in-NoMemory
returns-in-NoMemory g c = rw c.in-NoMemory.is c.put.ensures

pub returns-in-BadSize : goal.returns-in-BadSize
returns-in-BadSize g c = rw c.in-BadSize.is c.put-in-BadSize.ensures

pub returns-in-NotSettled : goal.returns-in-NotSettled
returns-in-NotSettled g c = rw c.in-NotSettled.is c.put-in-NotSettled.ensures

pub returns-in-BadLimit : goal.returns-in-BadLimit
returns-in-BadLimit g c = rw c.in-BadLimit.is c.put-in-BadLimit.ensures
