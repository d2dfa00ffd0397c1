use Rattle.std.proofs.Common.{refl}
use Rattle.agenda_inputs.specs.Steps.{goes}
use Rattle.agenda_inputs.proofs.StepLemmas.{failed}
use Rattle.agenda_answers.proofs.machine_next.starts_at.Goals as goal

pub returns-in_err-clock : goal.returns-in_err-clock
returns-in_err-clock g c = failed _ _ c.in_err-clock.ensures.read c.from_residual.ensures.1

pub returns-in_err-after : goal.returns-in_err-after
returns-in_err-after g c =
    goes _ c.in_ok-clock.ensures.read (failed _ _ c.in_err-after.ensures c.from_residual-in_err-after.ensures.1)

pub returns-in_err-number_in : goal.returns-in_err-number_in
returns-in_err-number_in g c =
    goes _ c.in_ok-clock.ensures.read (goes _ c.in_ok-after.ensures
    (failed _ _ (rw c.from.ensures at c.in_err-number_in.ensures) c.from_residual-in_err-number_in.ensures.1))

pub returns-in_err-zones : goal.returns-in_err-zones
returns-in_err-zones g c =
    goes _ c.in_ok-clock.ensures.read (goes _ c.in_ok-after.ensures (goes _ (rw c.from.ensures at c.in_ok-number_in.ensures)
    (failed _ _ (rw c.in_ok-clock.ensures.same at c.in_err-zones.ensures.read) c.from_residual-in_err-zones.ensures.1)))

pub returns-in_err-form : goal.returns-in_err-form
returns-in_err-form g c =
    goes _ c.in_ok-clock.ensures.read (goes _ c.in_ok-after.ensures (goes _ (rw c.from.ensures at c.in_ok-number_in.ensures)
    (goes _ (rw c.in_ok-clock.ensures.same at c.in_ok-zones.ensures.read)
    (failed _ _ c.in_err-form.ensures c.from_residual-in_err-form.ensures.1))))

pub returns : goal.returns
returns g c =
    goes _ c.in_ok-clock.ensures.read (goes _ c.in_ok-after.ensures (goes _ (rw c.from.ensures at c.in_ok-number_in.ensures)
    (goes _ (rw c.in_ok-clock.ensures.same at c.in_ok-zones.ensures.read)
    (goes _ (rw (c.unnamed_zone-unnamed.ensures, c.origin_at-origin.ensures) at c.in_ok-form.ensures) refl))))
