use Rattle.agenda_downtime.proofs.LawLemmas.{add_up}
use Rattle.agenda_downtime.proofs.laws.outcomes_add_up.Goals as goal

pub returns : goal.returns
returns c = add_up
