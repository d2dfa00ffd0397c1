use Rattle.plan_write.proofs.QuietLaws.{nothing_starts}
use Rattle.plan_write.proofs.quiet.nothing_starts_in_gaps.Goals as goal

pub returns : goal.returns
returns c = nothing_starts
