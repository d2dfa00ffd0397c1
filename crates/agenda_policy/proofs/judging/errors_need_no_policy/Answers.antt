use Rattle.agenda_policy.proofs.PolicyLemmas.{need_no_policy}
use Rattle.agenda_policy.proofs.judging.errors_need_no_policy.Goals as goal

pub returns : goal.returns
returns c = need_no_policy
