use Rattle.plan_clear.proofs.LeastLemmas.{first_is_least}
use Rattle.plan_clear.proofs.first.first_entry_is_least.Goals as goal

pub returns : goal.returns
returns c = first_is_least
