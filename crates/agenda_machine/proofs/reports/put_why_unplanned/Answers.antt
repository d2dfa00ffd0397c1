use Rattle.agenda_machine.proofs.reports.put_why_unplanned.Goals as goal

pub returns-in-UnitMissing : goal.returns-in-UnitMissing
returns-in-UnitMissing g c = rw c.in-UnitMissing.is (rw c.as_str-in-UnitMissing.ensures at c.put_around-in-UnitMissing.ensures)

pub returns-in-NotLingering : goal.returns-in-NotLingering
returns-in-NotLingering g c = rw c.in-NotLingering.is (rw c.as_str-in-NotLingering.ensures at c.put_around-in-NotLingering.ensures)

pub returns-in-UnitMasked : goal.returns-in-UnitMasked
returns-in-UnitMasked g c = rw c.in-UnitMasked.is (rw c.as_str-in-UnitMasked.ensures at c.put_around-in-UnitMasked.ensures)

pub returns-in-StartsBy : goal.returns-in-StartsBy
returns-in-StartsBy g c = rw c.in-StartsBy.is (rw c.as_str.ensures at c.put_around.ensures)

pub returns-in-AlsoStartsBy : goal.returns-in-AlsoStartsBy
returns-in-AlsoStartsBy g c = rw c.in-AlsoStartsBy.is (rw c.as_str-in-AlsoStartsBy.ensures at c.put_around-in-AlsoStartsBy.ensures)

pub returns-in-Anacron : goal.returns-in-Anacron
returns-in-Anacron g c = rw c.in-Anacron.is c.put_shown.ensures

pub returns-in-UnitIdle : goal.returns-in-UnitIdle
returns-in-UnitIdle g c = rw c.in-UnitIdle.is (rw c.as_str-in-UnitIdle.ensures at c.put_around-in-UnitIdle.ensures)
