use Rattle.std.proofs.Common.{take, ap, ◌∙◌}
use Rattle.plan_write.proofs.StampLemmas.{date_time_front}
use Rattle.plan_write.proofs.stamp.Stamp.date_time.Goals as goal

pub returns : goal.returns
returns c = rw (← c.self.view_is) (ap (take 19) c.self.invariant.3 ∙ date_time_front c.self.inside.second)
