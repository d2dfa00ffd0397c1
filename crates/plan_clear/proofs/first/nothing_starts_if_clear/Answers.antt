use Rattle.plan_clear.proofs.LeastLemmas.{nothing_starts}
use Rattle.plan_clear.proofs.first.nothing_starts_if_clear.Goals as goal

pub returns : goal.returns
returns c = nothing_starts
