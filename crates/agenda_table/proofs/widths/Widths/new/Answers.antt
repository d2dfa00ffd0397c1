use Rattle.std.proofs.Common.{refl}
use Rattle.agenda_table.specs.Layout.{widest}
use Rattle.agenda_table.proofs.WidthLemmas.{six_places}
use Rattle.agenda_table.proofs.widths.Widths.new.Goals as goal

pub returns : goal.returns
unfolding widest
returns c = six_places _ refl refl refl refl refl refl
