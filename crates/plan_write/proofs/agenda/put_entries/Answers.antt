use Rattle.plan_write.proofs.TakesLemmas.{lines_in_years}
use Rattle.plan_write.proofs.agenda.put_entries.Goals as goal
use Rattle.std.proofs.Common.{arith}
use Rattle.std.proofs.lemmas.Bool.Decides.{nat_tests}

pub returns : goal.returns
returns g c = grind (arith, nat_tests, lines_in_years)
