use Rattle.agenda_machine.proofs.reports.put_path_of.Goals as goal

pub returns : goal.returns
returns g c = rw c.as_str.ensures at c.put_path.ensures
