-- The text has the value, the option and the name of the nearest code.
use Rattle.std.proofs.Common.{◌∙◌, refl}
use Rattle.agenda_policy.specs.Reading.{unknown_text}
use Rattle.agenda_policy.proofs.reading.unknown_text.Goals as goal

pub returns : goal.returns
unfolding unknown_text
returns c = c.new.ensures ∙ c.in_ok-text.ensures.ok ∙ rw (c.name-option.ensures, c.name-like.ensures.name, c.in_ok-nearest.ensures) refl
