use Rattle.agenda_machine.proofs.JobFileLaws.{lines_are_in_names}
use Rattle.agenda_machine.proofs.job_files.lines_are_in_names.Goals as goal

pub returns : goal.returns
returns c = lines_are_in_names
