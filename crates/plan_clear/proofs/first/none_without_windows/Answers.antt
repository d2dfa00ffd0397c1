use Rattle.plan_clear.proofs.LeastLemmas.{without_windows}
use Rattle.plan_clear.proofs.first.none_without_windows.Goals as goal

pub returns : goal.returns
returns c = without_windows
