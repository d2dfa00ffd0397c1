use Rattle.std.proofs.Common.{refl}
use Rattle.std.proofs.KnownBytes.{Keeps-refl}
use Rattle.agenda_answers.proofs.StepLemmas.{ran}
use Rattle.agenda_answers.proofs.machine_describe.say_sentence.Goals as goal

pub returns-in-Ok-clause-answers : goal.returns-in-Ok-clause-answers
returns-in-Ok-clause-answers g c =
    (c.run_describe.result, ran _ _ _ _ _ c.run_describe.ensures.output, rw c.in-Ok.is (refl, Keeps-refl _))

pub returns-in-Err-clause-answers : goal.returns-in-Err-clause-answers
returns-in-Err-clause-answers g c =
    (c.run_describe.result, ran _ _ _ _ _ c.run_describe.ensures.output, rw c.in-Err.is c.report_fault.ensures.exits)
