use Rattle.std.proofs.Common.{None, Some, refl}
use Rattle.agenda_inputs.specs.Steps.{goes}
use Rattle.agenda_inputs.proofs.StepLemmas.{failed}
use Rattle.agenda_inputs.proofs.suggestion.usable.Goals as goal

pub returns-in_err-zone-clause-read : goal.returns-in_err-zone-clause-read
returns-in_err-zone-clause-read g c = rw c.in-Some.is (failed _ _ c.in_err-zone.ensures.read c.from_residual.ensures.1)

pub returns-in-Some-zone-clause-read : goal.returns-in-Some-zone-clause-read
returns-in-Some-zone-clause-read g c =
    rw c.in-Some.is (goes (Some c.in-Some-zone.zone) (rw c.in-Some-zone.is at c.in_ok-zone.ensures.read) refl)

pub returns-in-None-clause-read : goal.returns-in-None-clause-read
returns-in-None-clause-read g c = rw c.in-Some.is (goes None (rw c.in-None.is at c.in_ok-zone.ensures.read) refl)
