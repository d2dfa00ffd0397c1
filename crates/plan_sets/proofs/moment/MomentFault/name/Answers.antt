use Rattle.std.proofs.Common.{ap, sym}
use Rattle.plan_sets.specs.Causes.{moment_cause}
use Rattle.plan_sets.proofs.moment.MomentFault.name.Goals as goal

pub returns-in-NoSuchDate : goal.returns-in-NoSuchDate
returns-in-NoSuchDate c = ap moment_cause (sym c.in-NoSuchDate.is)
