use Rattle.plan_baseline.proofs.ReadBackLemmas.{read_back}
use Rattle.plan_baseline.proofs.laws.agendas_are_read_back.Goals as goal

pub returns : goal.returns
returns c = read_back
