use Rattle.agenda_answers.proofs.ClearLemmas.{machine_safe}
use Rattle.agenda_answers.proofs.laws.machine_clear_is_safe.Goals as goal

pub returns : goal.returns
returns c = machine_safe
