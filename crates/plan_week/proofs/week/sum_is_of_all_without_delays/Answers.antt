use Rattle.plan_week.proofs.StartLaws.{sum_is_of_all}
use Rattle.plan_week.proofs.week.sum_is_of_all_without_delays.Goals as goal

pub returns : goal.returns
returns c = sum_is_of_all
