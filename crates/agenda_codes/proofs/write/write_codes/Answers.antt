use Rattle.agenda_codes.specs.Texts.{codes_text}
use Rattle.agenda_codes.proofs.write.write_codes.Goals as goal

pub returns-clause-text : goal.returns-clause-text
unfolding codes_text
returns-clause-text g c = rw c.all.ensures at c.write_lines.ensures.text
