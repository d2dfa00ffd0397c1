use Rattle.std.proofs.Common.{Ok, Err, refl}
use Rattle.agenda_inputs.specs.Steps.{goes}
use Rattle.agenda_inputs.proofs.StepLemmas.{failed}
use Rattle.agenda_answers.proofs.OutcomeLemmas.{described_answer}
use Rattle.agenda_answers.proofs.machine_describe.described.Goals as goal

pub returns-in_err-answer : goal.returns-in_err-answer
returns-in_err-answer c =
    failed _ _ (described_answer _ c.prepare_description-made.result (Err _) c.prepare_description-made.ensures.answer c.in_err-answer.ensures)
    c.from_residual.ensures.1

pub returns : goal.returns
returns c =
    goes _ (described_answer _ c.prepare_description-made.result (Ok c.in_ok-answer.answer) c.prepare_description-made.ensures.answer
    c.in_ok-answer.ensures)
    (rw (c.new.ensures, c.status_of.ensures, c.are_warnings.ensures, c.as_slice.ensures.value) refl)
