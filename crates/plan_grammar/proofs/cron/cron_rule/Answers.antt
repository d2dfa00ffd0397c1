use Rattle.std.proofs.Common.{rules}
use Rattle.plan_grammar.specs.Readings.{Gives}
use Rattle.plan_match.specs.WithinLimits.{RuleIsWithinLimits}
use Rattle.plan_grammar.specs.Cron.{cron_reading}
use Rattle.plan_grammar.proofs.LimitsLemmas as limits
use Rattle.plan_grammar.proofs.TextFaults.{cron, part_of_memory}
use Rattle.plan_grammar.proofs.cron.cron_rule.Goals as goal

pub returns-clause-within : goal.returns-clause-within
returns-clause-within c =
    let meant : Gives c.rule_of.result (cron_reading c.args.text.now) = search rules in
    limits.answered RuleIsWithinLimits c.rule_of.result (cron_reading c.args.text.now) meant (limits.cron c.args.text.now)

pub returns-clause-memory : goal.returns-clause-memory
returns-clause-memory c = part_of_memory _ _ (search rules) (cron c.args.text.now)
