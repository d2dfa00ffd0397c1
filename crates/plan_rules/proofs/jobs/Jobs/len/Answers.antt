use Rattle.std.proofs.Common.{subst}
use Rattle.plan_rules.specs.Jobs.{HaveDistinctNames}
use Rattle.plan_rules.proofs.JobsLemmas.{HaveDistinctNames-keys}
use Rattle.plan_rules.proofs.jobs.Jobs.len.Goals as goal

pub returns-clause-distinct : goal.returns-clause-distinct
returns-clause-distinct c =
    subst HaveDistinctNames c.self.view_is (HaveDistinctNames-keys c.self.inside.by_name.entries c.self.invariant.0 c.len.ensures.unique)
