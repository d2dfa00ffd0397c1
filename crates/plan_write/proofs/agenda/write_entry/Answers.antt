use Rattle.plan_write.proofs.TakesLemmas.{lines_in_years}
use Rattle.plan_write.proofs.agenda.write_entry.Goals as goal
use Rattle.std.proofs.Common.{arith}
use Rattle.std.proofs.lemmas.Bool.Decides.{nat_tests}

pub returns-clause-text : goal.returns-clause-text
returns-clause-text g c = grind (arith, nat_tests, lines_in_years)
