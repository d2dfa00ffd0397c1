use Rattle.agenda_faults.proofs.fault_lines.put_failure.Goals as goal

pub returns-in-Moment : goal.returns-in-Moment
returns-in-Moment g c = rw (c.in-Moment.is, ← c.about_option.ensures, ← c.name.ensures) c.put_caused.ensures

pub returns-in-NotDirectory : goal.returns-in-NotDirectory
returns-in-NotDirectory g c =
    rw (c.in-NotDirectory.is, ← c.as_str-in-NotDirectory.ensures) c.put_between-in-NotDirectory.ensures
