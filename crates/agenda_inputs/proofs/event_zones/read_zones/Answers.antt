use Rattle.std.proofs.Common.{refl}
use Rattle.agenda_inputs.specs.Steps.{goes}
use Rattle.agenda_inputs.proofs.StepLemmas.{failed}
use Rattle.agenda_inputs.proofs.event_zones.read_zones.Goals as goal

pub returns-in_err-zones-clause-read : goal.returns-in_err-zones-clause-read
returns-in_err-zones-clause-read g c = failed _ _ c.in_err-zones.ensures.read c.from_residual.ensures.1

pub returns-clause-read : goal.returns-clause-read
returns-clause-read g c = goes _ c.in_ok-zones.ensures.read (rw c.new.ensures refl)
