use Rattle.agenda_faults.proofs.machine_lines.put_too_many.Goals as goal

pub returns : goal.returns
returns g c = rw (← c.format.ensures.text) c.put_between.ensures
