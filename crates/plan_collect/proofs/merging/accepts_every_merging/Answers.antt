use Rattle.plan_collect.proofs.TilingLemmas.{accepts}
use Rattle.plan_collect.proofs.merging.accepts_every_merging.Goals as goal

pub returns : goal.returns
returns c = accepts
