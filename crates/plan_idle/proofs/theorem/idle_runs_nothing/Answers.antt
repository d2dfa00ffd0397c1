use Rattle.plan_idle.proofs.AgreementLemmas.{idle_runs_nothing}
use Rattle.plan_idle.proofs.theorem.idle_runs_nothing.Goals as goal

pub returns : goal.returns
returns c = idle_runs_nothing
