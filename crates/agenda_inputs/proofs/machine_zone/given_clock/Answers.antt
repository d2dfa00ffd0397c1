use Rattle.std.proofs.Common.{ℕ, List, Result, Some, refl}
use Rattle.agenda_faults.specs.declared.faults.Failure.{Failure}
use Rattle.agenda_inputs.specs.Files.{Held}
use Rattle.agenda_inputs.specs.MachineZone.{names_zone, naming_zone}
use Rattle.agenda_inputs.specs.Steps.{Step, goes}
use Rattle.agenda_inputs.specs.Zone.{clock_of}
use Rattle.agenda_inputs.proofs.StepLemmas.{failed, not_computed}
use Rattle.agenda_inputs.proofs.machine_zone.given_clock.Goals as goal

-- a step, after which the failure of a zone has its text
named :
    {X : Type 0} (held : Held) (text : List ℕ) (step : Step X) (found end : Result X Failure) → step found →
    names_zone held text found end → naming_zone held text step end
named held text step found end is names = (found, is, names)

pub returns-in_err-clock-clause-read : goal.returns-in_err-clock-clause-read
returns-in_err-clock-clause-read g c =
    let held = g.F.Files.held c.args.files.now in
    failed _ _ (named held c.args.text.now (clock_of held (Some c.args.text.now)) c.clock_of_text-found.result _
    c.clock_of_text-found.ensures.read (rw c.clock_of_text-found.ensures.same at c.in_err-clock.ensures.read))
    c.from_residual.ensures.1

pub returns-in_err-name-clause-read : goal.returns-in_err-name-clause-read
returns-in_err-name-clause-read g c =
    let held = g.F.Files.held c.args.files.now in
    goes _ (named held c.args.text.now (clock_of held (Some c.args.text.now)) c.clock_of_text-found.result _
    c.clock_of_text-found.ensures.read (rw c.clock_of_text-found.ensures.same at c.in_ok-clock.ensures.read))
    (not_computed _ _ c.from_residual-in_err-name.ensures.1)

pub returns-clause-read : goal.returns-clause-read
returns-clause-read g c =
    let held = g.F.Files.held c.args.files.now in
    goes _ (named held c.args.text.now (clock_of held (Some c.args.text.now)) c.clock_of_text-found.result _
    c.clock_of_text-found.ensures.read (rw c.clock_of_text-found.ensures.same at c.in_ok-clock.ensures.read))
    (rw c.in_ok-name.ensures refl)
