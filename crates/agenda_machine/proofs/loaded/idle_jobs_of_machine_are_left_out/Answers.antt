use Rattle.agenda_machine.proofs.IdleLaws.{idle_jobs_of_machine_are_left_out}
use Rattle.agenda_machine.proofs.loaded.idle_jobs_of_machine_are_left_out.Goals as goal

pub returns : goal.returns
returns c = idle_jobs_of_machine_are_left_out
