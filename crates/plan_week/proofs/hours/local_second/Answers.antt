use Rattle.std.proofs.Common.{arith}
use Rattle.std.proofs.lemmas.Bool.Decides.{nat_tests}
use Rattle.plan_week.proofs.hours.local_second.Goals as goal

pub returns-then-shown-lt0-clause-value : goal.returns-then-shown-lt0-clause-value
returns-then-shown-lt0-clause-value c = grind (arith, nat_tests)
