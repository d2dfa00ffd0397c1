use Rattle.std.proofs.Common.{arith}
use Rattle.std.proofs.lemmas.Bool.Decides.{nat_tests}
use Rattle.agenda_machine.proofs.JobFileLemmas.{job_there, names_more}
use Rattle.agenda_machine.proofs.choice.names_of.Goals as goal

pub loop-number-preserved : goal.loop-number-preserved
loop-number-preserved c = grind (arith, nat_tests, names_more, job_there)
