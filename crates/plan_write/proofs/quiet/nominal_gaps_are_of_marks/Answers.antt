use Rattle.plan_write.proofs.NominalLaws.{of_marks}
use Rattle.plan_write.proofs.quiet.nominal_gaps_are_of_marks.Goals as goal

pub returns : goal.returns
returns c = of_marks
