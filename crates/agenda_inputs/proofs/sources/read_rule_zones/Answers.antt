-- Reading the zone doesn't change what is known of the files.
use Rattle.agenda_inputs.specs.Steps.{goes}
use Rattle.agenda_inputs.proofs.OpenedLemmas.{after_others, before_others, then_on_ok}
use Rattle.agenda_inputs.proofs.StepLemmas.{failed}
use Rattle.agenda_inputs.proofs.sources.read_rule_zones.Goals as goal

pub returns-in_err-clock-clause-read : goal.returns-in_err-clock-clause-read
returns-in_err-clock-clause-read g c = failed _ _ c.in_err-clock.ensures.read c.from_residual.ensures.1

pub returns-clause-read : goal.returns-clause-read
returns-clause-read g c = goes _ c.in_ok-clock.ensures.read (rw c.in_ok-clock.ensures.same at c.zones_of_rule.ensures.read)

pub returns-in_err-clock-clause-first : goal.returns-in_err-clock-clause-first
returns-in_err-clock-clause-first g c = before_others _ _ _ _ c.in_err-clock.ensures.first

pub returns-clause-opens : goal.returns-clause-opens
returns-clause-opens g c = then_on_ok _ _ _ _ _ _ (c.in_ok-clock.ensures.opens (λ is. cc)) c.zones_of_rule.ensures.opens

pub returns-clause-first : goal.returns-clause-first
returns-clause-first g c = after_others _ _ _ _ _ (c.in_ok-clock.ensures.opens (λ is. cc)) c.zones_of_rule.ensures.first
