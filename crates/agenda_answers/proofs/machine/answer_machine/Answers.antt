use Rattle.std.proofs.Common.{Err, refl}
use Rattle.std.proofs.KnownBytes.{Keeps-refl}
use Rattle.agenda_answers.proofs.machine.answer_machine.Goals as goal

pub returns-in-Err-clause-answers : goal.returns-in-Err-clause-answers
returns-in-Err-clause-answers g c = (
  Err c.in-Err.failure,
  c.in-Err.ensures,
  (
    c.end-status.result,
    (Err c.in-Err.failure, (refl, Keeps-refl _), c.end-status.ensures.exits),
    rw (c.unanswered_status.ensures.value, c.is_clear_question.ensures, c.is_too_large-is_too_large.ensures) refl,
  ),
)
