use Rattle.std.proofs.Common.{Ok, refl, subst}
use Rattle.agenda_inputs.specs.EventZones.{looked_up}
use Rattle.agenda_inputs.specs.Steps.{goes}
use Rattle.agenda_inputs.proofs.StepLemmas.{failed}
use Rattle.agenda_inputs.proofs.machine_zone.named_clock.Goals as goal

pub returns-in_err-zone-clause-read : goal.returns-in_err-zone-clause-read
returns-in_err-zone-clause-read g c =
    rw c.in_default.is
    (failed _ _ c.in_err-zone.ensures.read c.from_residual.ensures.1)

pub returns-in_default-clause-read : goal.returns-in_default-clause-read
returns-in_default-clause-read g c =
    rw c.in_default.is (goes _
    (subst (λ name. looked_up (g.F.Files.held c.args.files.now) name (Ok c.in_ok-zone.zone)) c.as_str.ensures c.in_ok-zone.ensures.read)
    c.clock_if_found.ensures)

pub returns-clause-read : goal.returns-clause-read
returns-clause-read g c = rw c.in-Some.is (rw c.as_slice.ensures.value at c.zone_of_file.ensures)
