use Rattle.agenda_commands.proofs.CodeLemmas.{ends_failure, line_has, warning_has}
use Rattle.agenda_commands.proofs.laws.codes_are_explained.Goals as goal

pub returns-clause-lines : goal.returns-clause-lines
returns-clause-lines c = ends_failure

pub returns-clause-causes : goal.returns-clause-causes
returns-clause-causes c = line_has

pub returns-clause-warnings : goal.returns-clause-warnings
returns-clause-warnings c = warning_has
