use Rattle.agenda_answers.proofs.ClearLemmas.{clear_safe}
use Rattle.agenda_answers.proofs.laws.clear_is_safe.Goals as goal

pub returns : goal.returns
returns c = clear_safe
