use Rattle.std.proofs.Common.{arith}
use Rattle.plan_write.proofs.latest.latest_start.Goals as goal

pub returns : goal.returns
returns c = record { value = omega arith; years = omega arith }
