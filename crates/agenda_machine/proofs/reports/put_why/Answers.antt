use Rattle.agenda_machine.proofs.reports.put_why.Goals as goal

pub returns-in-WantedBy : goal.returns-in-WantedBy
returns-in-WantedBy g c = rw c.in-WantedBy.is (rw c.as_str.ensures at c.put_around.ensures)

pub returns-in-NoSuchTimer : goal.returns-in-NoSuchTimer
returns-in-NoSuchTimer g c = rw c.in-NoSuchTimer.is c.put_shown-in-NoSuchTimer.ensures

pub returns-in-NotReadable : goal.returns-in-NotReadable
returns-in-NotReadable g c = rw c.in-NotReadable.is c.put_shown-in-NotReadable.ensures

pub returns-in-NotUtf8 : goal.returns-in-NotUtf8
returns-in-NotUtf8 g c = rw c.in-NotUtf8.is c.put_shown-in-NotUtf8.ensures
