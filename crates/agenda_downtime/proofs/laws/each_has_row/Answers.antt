use Rattle.agenda_downtime.proofs.LawLemmas.{each_row}
use Rattle.agenda_downtime.proofs.laws.each_has_row.Goals as goal

pub returns : goal.returns
returns c = each_row
