use Rattle.plan_changes.proofs.LawLemmas.{differences}
use Rattle.plan_changes.proofs.laws.changes_are_differences.Goals as goal

pub returns : goal.returns
returns c = differences
