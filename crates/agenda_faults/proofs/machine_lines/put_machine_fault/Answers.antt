use Rattle.agenda_faults.proofs.machine_lines.put_machine_fault.Goals as goal

pub returns-in-Length : goal.returns-in-Length
returns-in-Length g c = rw c.in-Length.is (rw c.as_str-in-Length.ensures at c.put_between.ensures)

pub returns-in-NothingExcepted : goal.returns-in-NothingExcepted
returns-in-NothingExcepted g c =
    rw c.in-NothingExcepted.is (rw c.as_str-in-NothingExcepted.ensures at c.put_between-in-NothingExcepted.ensures)

pub returns-in-NothingChosen : goal.returns-in-NothingChosen
returns-in-NothingChosen g c =
    rw c.in-NothingChosen.is (rw c.as_str-in-NothingChosen.ensures at c.put_between-in-NothingChosen.ensures)

pub returns-in-Clock : goal.returns-in-Clock
returns-in-Clock g c = rw c.in-Clock.is c.put.ensures
