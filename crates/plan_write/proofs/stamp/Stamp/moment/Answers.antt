use Rattle.std.proofs.Common.{take, ap, ◌∙◌}
use Rattle.plan_write.proofs.StampLemmas.{moment_front}
use Rattle.plan_write.proofs.stamp.Stamp.moment.Goals as goal

pub returns : goal.returns
returns c = rw (← c.self.view_is) (ap (take 20) c.self.invariant.3 ∙ moment_front c.self.inside.second)
