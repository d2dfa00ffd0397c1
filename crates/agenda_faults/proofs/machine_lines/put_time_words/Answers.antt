use Rattle.agenda_faults.proofs.machine_lines.put_time_words.Goals as goal

pub returns-in-BadTime : goal.returns-in-BadTime
returns-in-BadTime g c = rw c.in-BadTime.is c.put_between.ensures

pub returns-in-OutOfYears : goal.returns-in-OutOfYears
returns-in-OutOfYears g c = rw c.in-OutOfYears.is c.put_between-in-OutOfYears.ensures
