use Rattle.std.proofs.Common.{ap, ◌∙◌}
use Rattle.plan_rules.specs.Jobs.{number_of}
use Rattle.plan_rules.proofs.JobsLemmas.{number_of-keys}
use Rattle.plan_rules.proofs.jobs.Jobs.number_of.Goals as goal

pub returns : goal.returns
returns c =
    c.get_index_of.ensures.index ∙ number_of-keys c.args.name.now c.self.inside.by_name.entries c.self.invariant.0
    ∙ ap (number_of c.args.name.now) c.self.view_is
