use Rattle.agenda_answers.proofs.answers.answer_arguments.Goals as goal

pub returns-clause-answers : goal.returns-clause-answers
returns-clause-answers g c = (c.read_words.result, c.read_words.ensures, c.answer.ensures.answers)

pub returns-clause-out_flushed : goal.returns-clause-out_flushed
returns-clause-out_flushed g c = c.answer.ensures.out_flushed

pub returns-clause-err_flushed : goal.returns-clause-err_flushed
returns-clause-err_flushed g c = c.answer.ensures.err_flushed
