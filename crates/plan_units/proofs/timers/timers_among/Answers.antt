use Rattle.std.proofs.Common.{rules}
use Rattle.std.proofs.lemmas.List.Elements.{filter_from_retain}
use Rattle.plan_units.specs.Timers.{is_timer}
use Rattle.plan_units.proofs.timers.timers_among.Goals as goal

pub returns : goal.returns
returns c = filter_from_retain _ is_timer (λ p x b q called. search rules) _ _ _ c.retain.ensures.filtered
