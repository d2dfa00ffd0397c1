use Rattle.std.proofs.Common.{refl}
use Rattle.agenda_faults.specs.declared.faults.Failure.TheVariants.{Run}
use Rattle.agenda_faults.specs.declared.faults.RunFault.TheVariants as run
use Rattle.plan_machine.specs.Zone.{zone_shown}
use Rattle.agenda_inputs.specs.Steps.{goes}
use Rattle.agenda_inputs.proofs.StepLemmas.{failed}
use Rattle.agenda_inputs.proofs.machine_zone.machine_clock.Goals as goal

pub returns-in-Some-clause-read : goal.returns-in-Some-clause-read
returns-in-Some-clause-read g c = rw c.in-Some.is (rw c.as_str.ensures at c.given_clock.ensures.read)

pub returns-in_err-zone-clause-read : goal.returns-in_err-zone-clause-read
returns-in_err-zone-clause-read g c = rw c.in_default.is (failed _ (Run run.NoMemory) refl c.from_residual.ensures.1)

pub returns-clause-read : goal.returns-clause-read
returns-clause-read g c =
    rw c.in_default.is (goes (zone_shown c.in_ok-zone.zone) (λ known. c.in_ok-zone.ensures known) c.clock_by_zone.ensures.read)
