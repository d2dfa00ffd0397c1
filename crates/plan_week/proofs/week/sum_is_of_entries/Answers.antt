use Rattle.plan_week.proofs.SumLemmas.{sum_is}
use Rattle.plan_week.proofs.week.sum_is_of_entries.Goals as goal

pub returns : goal.returns
returns c = sum_is
