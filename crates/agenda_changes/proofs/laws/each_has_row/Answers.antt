use Rattle.agenda_changes.proofs.FirstLemmas.{once}
use Rattle.agenda_changes.proofs.laws.each_has_row.Goals as goal

pub returns : goal.returns
returns c = once
