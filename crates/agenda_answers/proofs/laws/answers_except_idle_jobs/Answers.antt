use Rattle.agenda_answers.proofs.ExceptLemmas.{answers_except}
use Rattle.agenda_answers.proofs.laws.answers_except_idle_jobs.Goals as goal

pub returns : goal.returns
returns c = answers_except
