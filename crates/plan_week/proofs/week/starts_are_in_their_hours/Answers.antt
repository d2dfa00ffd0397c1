use Rattle.plan_week.proofs.StartLaws.{in_their_hours}
use Rattle.plan_week.proofs.week.starts_are_in_their_hours.Goals as goal

pub returns : goal.returns
returns c = in_their_hours
