use Rattle.plan_changes.proofs.LawLemmas.{none_if_same}
use Rattle.plan_changes.proofs.laws.no_changes_if_same.Goals as goal

pub returns : goal.returns
returns c = none_if_same
