-- Reading the zone and the sources doesn't change what is known of the files. The files of each step are opened after those of the
-- steps before it.
use Rattle.std.proofs.Common.{[], refl}
use Rattle.agenda_inputs.specs.Steps.{goes}
use Rattle.agenda_inputs.proofs.OpenedLemmas.{after_others, all_opened, before_others, then_all}
use Rattle.agenda_inputs.proofs.StepLemmas.{failed}
use Rattle.agenda_inputs.proofs.sources.read_input.Goals as goal

pub returns-in_err-clock-clause-read : goal.returns-in_err-clock-clause-read
returns-in_err-clock-clause-read g c = failed _ _ c.in_err-clock.ensures.read c.from_residual.ensures.1

pub returns-in_err-tried-clause-read : goal.returns-in_err-tried-clause-read
returns-in_err-tried-clause-read g c =
    goes _ c.in_ok-clock.ensures.read
    (failed _ _ (rw (c.in_ok-clock.ensures.same, c.as_slice.ensures) at c.in_err-tried.ensures.read)
    c.from_residual-in_err-tried.ensures.1)

pub returns-in_err-zones-clause-read : goal.returns-in_err-zones-clause-read
returns-in_err-zones-clause-read g c =
    goes _ c.in_ok-clock.ensures.read
    (goes _ (rw (c.in_ok-clock.ensures.same, c.as_slice.ensures) at c.in_ok-tried.ensures.read)
    (failed _ _ (rw (c.in_ok-tried.ensures.same, c.in_ok-clock.ensures.same) at c.in_err-zones.ensures.read)
    c.from_residual-in_err-zones.ensures.1))

pub returns-clause-read : goal.returns-clause-read
returns-clause-read g c =
    goes _ c.in_ok-clock.ensures.read
    (goes _ (rw (c.in_ok-clock.ensures.same, c.as_slice.ensures) at c.in_ok-tried.ensures.read)
    (goes _ (rw (c.in_ok-tried.ensures.same, c.in_ok-clock.ensures.same) at c.in_ok-zones.ensures.read) refl))

pub returns-in_err-clock-clause-first : goal.returns-in_err-clock-clause-first
returns-in_err-clock-clause-first g c = ([], before_others _ _ _ _ c.in_err-clock.ensures.first)

pub returns-in_err-tried-clause-first : goal.returns-in_err-tried-clause-first
returns-in_err-tried-clause-first g c = (
  [],
  after_others _ _ _ _ _ (c.in_ok-clock.ensures.opens (λ is. cc))
      (before_others _ _ _ _ (rw c.as_slice.ensures at c.in_err-tried.ensures.first)),
)

pub returns-in_err-zones-clause-first : goal.returns-in_err-zones-clause-first
returns-in_err-zones-clause-first g c = (
  c.in_ok-tried.tried.sources,
  after_others _ _ _ _ _ (c.in_ok-clock.ensures.opens (λ is. cc))
      (after_others _ _ _ _ _ (rw c.as_slice.ensures at c.in_ok-tried.ensures.opens) c.in_err-zones.ensures.first),
)

pub returns-clause-opens : goal.returns-clause-opens
returns-clause-opens g c =
    then_all _ _ _ _ _ (c.in_ok-clock.ensures.opens (λ is. cc))
    (then_all _ _ _ _ _ (rw c.as_slice.ensures at c.in_ok-tried.ensures.opens) c.in_ok-zones.ensures.opens)

pub returns-clause-first : goal.returns-clause-first
returns-clause-first g c = (c.in_ok-tried.tried.sources, all_opened _ _ _ (returns-clause-opens g c))
