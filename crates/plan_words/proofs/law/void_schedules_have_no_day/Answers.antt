-- The law is proved of the definitions.
use Rattle.plan_words.proofs.VoidLemmas.{void_means}
use Rattle.plan_words.proofs.law.void_schedules_have_no_day.Goals as goal

pub returns : goal.returns
returns c = void_means
