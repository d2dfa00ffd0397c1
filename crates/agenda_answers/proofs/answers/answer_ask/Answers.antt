use Rattle.std.proofs.Common.{Ok, Err, refl}
use Rattle.std.proofs.KnownBytes.{Keeps-refl}
use Rattle.agenda_answers.proofs.answers.answer_ask.Goals as goal

pub returns-in-Ok-clause-answers : goal.returns-in-Ok-clause-answers
returns-in-Ok-clause-answers g c = (Ok c.in-Ok.request, c.in-Ok.ensures, c.answer_request.ensures.answers)

pub returns-in-Err-clause-answers : goal.returns-in-Err-clause-answers
returns-in-Err-clause-answers g c = (
  Err c.in-Err.failure,
  c.in-Err.ensures,
  (Err c.in-Err.failure, record { end = Err c.in-Err.failure; ends = refl; puts = (refl, Keeps-refl _) }, c.end.ensures.exits),
)
