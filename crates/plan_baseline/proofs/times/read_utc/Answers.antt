use Rattle.std.proofs.Common.{arith}
use Rattle.std.proofs.lemmas.Bool.Decides.{nat_tests}
use Rattle.plan_baseline.proofs.PlainLemmas.{moment_plain, plain_utf8}
use Rattle.plan_baseline.proofs.times.read_utc.Goals as goal

pub returns-in_err-ok-clause-none : goal.returns-in_err-ok-clause-none
returns-in_err-ok-clause-none c = grind (arith, nat_tests, moment_plain, plain_utf8)
