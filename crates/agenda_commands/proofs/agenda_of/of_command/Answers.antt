use Rattle.std.proofs.Common.{Err, ap}
use Rattle.agenda_commands.proofs.agenda_of.of_command.Goals as goal

pub returns-in-Err : goal.returns-in-Err
returns-in-Err c = rw c.in-Err.is (ap Err c.from.ensures)
