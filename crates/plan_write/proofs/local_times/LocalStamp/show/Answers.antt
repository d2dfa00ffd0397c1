-- Outside the planner's years, the time stays in UTC.
use Rattle.plan_write.specs.LocalTimes.{local_text}
use Rattle.plan_write.proofs.StampLemmas.{date_time_utc}
use Rattle.plan_write.proofs.local_times.LocalStamp.show.Goals as goal
use Rattle.std.proofs.Common.{arith}
use Rattle.std.proofs.lemmas.Bool.Decides.{nat_tests}

pub returns-in-None : goal.returns-in-None
unfolding local_text
returns-in-None c = grind (arith, nat_tests, date_time_utc)
