use Rattle.std.proofs.Common.{Ok, Err, refl}
use Rattle.std.proofs.KnownBytes.{Keeps-refl}
use Rattle.agenda_answers.proofs.machine_describe.answer_machine_describe.Goals as goal

pub returns-in-Ok-clause-answers : goal.returns-in-Ok-clause-answers
returns-in-Ok-clause-answers g c =
    (Ok c.in-Ok.zones, rw c.new-below.ensures at c.in-Ok.ensures, c.say_sentence.ensures.answers)

pub returns-in-Err-clause-answers : goal.returns-in-Err-clause-answers
returns-in-Err-clause-answers g c = (
  Err c.in-Err.failure,
  rw c.new-below.ensures at c.in-Err.ensures,
  (Err c.in-Err.failure, (refl, Keeps-refl _), c.end.ensures.exits),
)
