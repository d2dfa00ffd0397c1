use Rattle.std.proofs.Common.{Ok, Err, refl}
use Rattle.std.proofs.KnownBytes.{Keeps-refl}
use Rattle.agenda_answers.proofs.changes.answer_changes.Goals as goal

pub returns-in-Ok-clause-answers : goal.returns-in-Ok-clause-answers
returns-in-Ok-clause-answers g c = (Ok c.in-Ok.goal, c.in-Ok.ensures.read, rw c.in-Ok.ensures.same at c.answer_jobs.ensures.answers)

pub returns-in-Err-clause-answers : goal.returns-in-Err-clause-answers
returns-in-Err-clause-answers g c = (
  Err c.in-Err.failure,
  c.in-Err.ensures.read,
  (Err c.in-Err.failure, (refl, Keeps-refl _), rw c.as_slice.ensures at c.end.ensures.exits),
)
