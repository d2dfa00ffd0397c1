use Rattle.agenda_commands.proofs.goal.make.Goals as goal

pub returns-in-Scripts-clause-made : goal.returns-in-Scripts-clause-made
returns-in-Scripts-clause-made g c = rw c.in-Scripts.is (c.make_scripts.ensures.made c.args.format.now)
