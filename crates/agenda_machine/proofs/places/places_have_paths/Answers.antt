use Rattle.agenda_machine.proofs.PlaceLaws.{places_have_paths}
use Rattle.agenda_machine.proofs.places.places_have_paths.Goals as goal

pub returns : goal.returns
returns c = places_have_paths
