use Rattle.agenda_machine.proofs.IdleLaws.{idle_jobs_are_excepted}
use Rattle.agenda_machine.proofs.loaded.idle_jobs_are_excepted.Goals as goal

pub returns : goal.returns
returns c = idle_jobs_are_excepted
