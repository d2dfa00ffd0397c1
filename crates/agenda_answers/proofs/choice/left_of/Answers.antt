use Rattle.std.proofs.Common.{refl}
use Rattle.agenda_faults.specs.declared.faults.Failure.TheVariants.{Run}
use Rattle.agenda_faults.specs.declared.faults.RunFault.TheVariants as run
use Rattle.agenda_inputs.specs.Steps.{goes}
use Rattle.agenda_inputs.proofs.StepLemmas.{failed, not_computed}
use Rattle.agenda_answers.proofs.choice.left_of.Goals as goal

pub returns-in_err-unknown : goal.returns-in_err-unknown
returns-in_err-unknown c = failed _ (Run run.NoMemory) refl c.from_residual.ensures.1

pub returns-in_err-names : goal.returns-in_err-names
returns-in_err-names c = failed _ (Run run.NoMemory) refl c.from_residual-in_err-names.ensures.1

pub returns-in_err-front : goal.returns-in_err-front
returns-in_err-front c = failed _ (Run run.NoMemory) refl c.from_residual-in_err-front.ensures.1

pub returns-in_err-names_if : goal.returns-in_err-names_if
returns-in_err-names_if c =
    goes c.in_ok-unknown.unknown.items c.in_ok-unknown.ensures
    (goes c.in_ok-names.names.items (rw (c.as_slice.ensures.value) at c.in_ok-names.ensures)
    (failed _ _ (rw (c.unexcepted.ensures, c.as_str.ensures, c.in_ok-front.ensures, c.as_slice-2.ensures.value) at c.in_err-names_if.ensures)
    c.from_residual-in_err-names_if.ensures.1))

pub returns-in_err-names_if-2 : goal.returns-in_err-names_if-2
returns-in_err-names_if-2 c =
    goes c.in_ok-unknown.unknown.items c.in_ok-unknown.ensures
    (goes c.in_ok-names.names.items (rw (c.as_slice.ensures.value) at c.in_ok-names.ensures)
    (goes _ (rw (c.unexcepted.ensures, c.as_str.ensures, c.in_ok-front.ensures, c.as_slice-2.ensures.value) at c.in_ok-names_if.ensures)
    (failed _ _ (rw (c.unchosen.ensures, c.as_slice-3.ensures.value) at c.in_err-names_if-2.ensures) c.from_residual-in_err-names_if-2.ensures.1)))

pub returns-in_err-names_of : goal.returns-in_err-names_of
returns-in_err-names_of c =
    goes c.in_ok-unknown.unknown.items c.in_ok-unknown.ensures
    (goes c.in_ok-names.names.items (rw (c.as_slice.ensures.value) at c.in_ok-names.ensures)
    (goes _ (rw (c.unexcepted.ensures, c.as_str.ensures, c.in_ok-front.ensures, c.as_slice-2.ensures.value) at c.in_ok-names_if.ensures)
    (goes _ (rw (c.unchosen.ensures, c.as_slice-3.ensures.value) at c.in_ok-names_if-2.ensures) (not_computed _ _ c.from_residual-in_err-names_of.ensures.1))))

pub returns : goal.returns
returns c =
    goes c.in_ok-unknown.unknown.items c.in_ok-unknown.ensures
    (goes c.in_ok-names.names.items (rw (c.as_slice.ensures.value) at c.in_ok-names.ensures)
    (goes _ (rw (c.unexcepted.ensures, c.as_str.ensures, c.in_ok-front.ensures, c.as_slice-2.ensures.value) at c.in_ok-names_if.ensures)
    (goes _ (rw (c.unchosen.ensures, c.as_slice-3.ensures.value) at c.in_ok-names_if-2.ensures)
    (rw (
      c.without.ensures,
      c.as_slice-4.ensures.value,
      c.left_out-left.ensures,
      c.in_ok-names_of.ensures,
      c.count_left.ensures,
      c.as_slice-5.ensures.value,
      c.as_str-2.ensures,
      c.in_ok-front.ensures,
    ) refl))))
