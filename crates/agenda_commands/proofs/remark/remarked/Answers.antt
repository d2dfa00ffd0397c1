use Rattle.agenda_commands.proofs.remark.remarked.Goals as goal

pub returns-clause-remark : goal.returns-clause-remark
returns-clause-remark c = rw c.from.ensures at c.in_ok-remark.ensures
