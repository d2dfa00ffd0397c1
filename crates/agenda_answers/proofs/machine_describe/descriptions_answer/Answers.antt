use Rattle.std.proofs.Common.{None, refl, ◌∙◌}
use Rattle.agenda_faults.specs.declared.faults.Failure.TheVariants.{Run}
use Rattle.agenda_faults.specs.declared.faults.RunFault.TheVariants as run
use Rattle.agenda_inputs.specs.Steps.{goes, stops}
use Rattle.agenda_answers.proofs.MachineLemmas.{left_same, no_accuracy, rest_failed, rest_planned, rest_stopped}
use Rattle.agenda_inputs.proofs.StepLemmas.{failed}
use Rattle.agenda_answers.proofs.machine_describe.descriptions_answer.Goals as goal

pub returns-in_err-clock : goal.returns-in_err-clock
returns-in_err-clock g c = failed _ _ c.in_err-clock.ensures.read c.from_residual.ensures.1

pub returns-in_err-sources : goal.returns-in_err-sources
returns-in_err-sources g c =
    goes _ c.in_ok-clock.ensures.read
    (failed _ (Run run.NoMemory) (no_accuracy _ _ _ _) c.from_residual-in_err-sources.ensures.1)

pub returns-in_err-zones : goal.returns-in_err-zones
returns-in_err-zones g c =
    goes _ c.in_ok-clock.ensures.read
    (failed _ _ (rw (c.in_ok-clock.ensures.same, c.in_ok-sources.ensures, c.as_slice.ensures.value) at c.in_err-zones.ensures)
    c.from_residual-in_err-zones.ensures.1)

pub returns-in_err-form : goal.returns-in_err-form
returns-in_err-form g c =
    goes _ c.in_ok-clock.ensures.read
    (goes _ (rw (c.in_ok-clock.ensures.same, c.in_ok-sources.ensures, c.as_slice.ensures.value) at c.in_ok-zones.ensures)
    (failed _ _ c.in_err-form.ensures c.from_residual-in_err-form.ensures.1))

pub returns-in_err-skipped : goal.returns-in_err-skipped
returns-in_err-skipped g c =
    goes _ c.in_ok-clock.ensures.read
    (goes _ (rw (c.in_ok-clock.ensures.same, c.in_ok-sources.ensures, c.as_slice.ensures.value) at c.in_ok-zones.ensures)
    (goes _ (rw c.unnamed_zone-unnamed.ensures at c.in_ok-form.ensures)
    (failed _ (Run run.NoMemory) refl c.from_residual-in_err-skipped.ensures.1)))

pub returns-in_err-left : goal.returns-in_err-left
returns-in_err-left g c =
    goes _ c.in_ok-clock.ensures.read
    (goes _ (rw (c.in_ok-clock.ensures.same, c.in_ok-sources.ensures, c.as_slice.ensures.value) at c.in_ok-zones.ensures)
    (goes _ (rw c.unnamed_zone-unnamed.ensures at c.in_ok-form.ensures)
    (goes _ (rw (c.in_ok-sources.ensures, c.as_slice.ensures.value) at c.in_ok-skipped.ensures.errors)
    (failed _ _ (left_same _ _ c.args.loaded.machine c.args.loaded.machine.unplanned.items _ _ _ _ c.in_ok-clock.clock.is_unknown _ _ _ _ _ _ _ _ _ c.root_of.ensures
    (c.as_slice-2.ensures ∙ c.in_ok-skipped.ensures.paths) c.as_slice-3.ensures.value
    (rw (c.in_ok-sources.ensures, c.as_slice.ensures.value) at c.in_ok-skipped.ensures.all) c.in_ok-skipped.ensures.planned
    c.as_slice-except.ensures c.as_slice-only.ensures c.in_err-left.ensures)
    c.from_residual-in_err-left.ensures.1))))

pub returns-then-is_stopped : goal.returns-then-is_stopped
returns-then-is_stopped g c =
    goes _ c.in_ok-clock.ensures.read
    (goes _ (rw (c.in_ok-clock.ensures.same, c.in_ok-sources.ensures, c.as_slice.ensures.value) at c.in_ok-zones.ensures)
    (goes _ (rw c.unnamed_zone-unnamed.ensures at c.in_ok-form.ensures)
    (goes _ (rw (c.in_ok-sources.ensures, c.as_slice.ensures.value) at c.in_ok-skipped.ensures.errors)
    (goes _ (left_same _ _ c.args.loaded.machine c.args.loaded.machine.unplanned.items _ _ _ _ c.in_ok-clock.clock.is_unknown _ _ _ _ _ _ _ _ _ c.root_of.ensures
    (c.as_slice-2.ensures ∙ c.in_ok-skipped.ensures.paths) c.as_slice-3.ensures.value
    (rw (c.in_ok-sources.ensures, c.as_slice.ensures.value) at c.in_ok-skipped.ensures.all) c.in_ok-skipped.ensures.planned
    c.as_slice-except.ensures c.as_slice-only.ensures c.in_ok-left.ensures)
    (goes _ (rest_stopped _ _ _ _ _ (rw (c.is_stopped.ensures, c.as_slice-4.ensures.value) at c.if-is_stopped.true))
    (rw c.in_ok-skipped.ensures.paths refl))))))

pub returns-in_err-outcome : goal.returns-in_err-outcome
returns-in_err-outcome g c =
    goes _ c.in_ok-clock.ensures.read
    (goes _ (rw (c.in_ok-clock.ensures.same, c.in_ok-sources.ensures, c.as_slice.ensures.value) at c.in_ok-zones.ensures)
    (goes _ (rw c.unnamed_zone-unnamed.ensures at c.in_ok-form.ensures)
    (goes _ (rw (c.in_ok-sources.ensures, c.as_slice.ensures.value) at c.in_ok-skipped.ensures.errors)
    (goes _ (left_same _ _ c.args.loaded.machine c.args.loaded.machine.unplanned.items _ _ _ _ c.in_ok-clock.clock.is_unknown _ _ _ _ _ _ _ _ _ c.root_of.ensures
    (c.as_slice-2.ensures ∙ c.in_ok-skipped.ensures.paths) c.as_slice-3.ensures.value
    (rw (c.in_ok-sources.ensures, c.as_slice.ensures.value) at c.in_ok-skipped.ensures.all) c.in_ok-skipped.ensures.planned
    c.as_slice-except.ensures c.as_slice-only.ensures c.in_ok-left.ensures)
    (failed _ _ (rest_failed _ _ _ _ _ _ (rw (c.is_stopped.ensures, c.as_slice-4.ensures.value) at c.if-is_stopped.false)
    (stops _ (rw c.in_ok-skipped.ensures.paths at c.in_err-outcome.ensures) refl))
    c.from_residual-in_err-outcome.ensures.1)))))

pub returns : goal.returns
returns g c =
    goes _ c.in_ok-clock.ensures.read
    (goes _ (rw (c.in_ok-clock.ensures.same, c.in_ok-sources.ensures, c.as_slice.ensures.value) at c.in_ok-zones.ensures)
    (goes _ (rw c.unnamed_zone-unnamed.ensures at c.in_ok-form.ensures)
    (goes _ (rw (c.in_ok-sources.ensures, c.as_slice.ensures.value) at c.in_ok-skipped.ensures.errors)
    (goes _ (left_same _ _ c.args.loaded.machine c.args.loaded.machine.unplanned.items _ _ _ _ c.in_ok-clock.clock.is_unknown _ _ _ _ _ _ _ _ _ c.root_of.ensures
    (c.as_slice-2.ensures ∙ c.in_ok-skipped.ensures.paths) c.as_slice-3.ensures.value
    (rw (c.in_ok-sources.ensures, c.as_slice.ensures.value) at c.in_ok-skipped.ensures.all) c.in_ok-skipped.ensures.planned
    c.as_slice-except.ensures c.as_slice-only.ensures c.in_ok-left.ensures)
    (goes _ (rest_planned _ _ _ _ _ (c.in_ok-outcome.outcome, None)
    (rw (c.is_stopped.ensures, c.as_slice-4.ensures.value) at c.if-is_stopped.false)
    (goes _ (rw c.in_ok-skipped.ensures.paths at c.in_ok-outcome.ensures) refl))
    refl)))))
