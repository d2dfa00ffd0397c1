use Rattle.std.proofs.Common.{arith}
use Rattle.std.proofs.lemmas.Bool.Decides.{nat_tests}
use Rattle.agenda_machine.proofs.JobFileLemmas.{files_more, job_there}
use Rattle.agenda_machine.proofs.job_files.files_among.Goals as goal

pub loop-number-preserved : goal.loop-number-preserved
loop-number-preserved c = grind (arith, nat_tests, files_more, job_there)
