use Rattle.agenda_commands.proofs.explain.explain.Goals as goal

pub returns-in-Some-clause-text : goal.returns-in-Some-clause-text
returns-in-Some-clause-text g c = rw c.in-Some.is c.write_explanation.ensures.text
