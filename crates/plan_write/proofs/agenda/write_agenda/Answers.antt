-- The writer takes the header first, and then the lines.
use Rattle.plan_streams.proofs.StreamLemmas.{takes_both}
use Rattle.plan_write.proofs.agenda.write_agenda.Goals as goal
use Rattle.std.proofs.Common.{arith}
use Rattle.std.proofs.lemmas.Bool.Decides.{nat_tests}

pub returns-clause-text : goal.returns-clause-text
returns-clause-text g c = grind (arith, nat_tests, takes_both)
