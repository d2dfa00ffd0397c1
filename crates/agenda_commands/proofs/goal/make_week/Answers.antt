use Rattle.std.proofs.Common.{refl}
use Rattle.agenda_commands.proofs.goal.make_week.Goals as goal

pub returns-clause-made : goal.returns-clause-made
returns-clause-made g c = rw (← c.counted-jobs.ensures, c.in_ok-agenda.ensures.planned, c.in_ok-week.ensures) refl
