use Rattle.std.proofs.Common.{rules, ◌≡◌}
use Rattle.std.proofs.lemmas.Bool.Decides.{Decides-at}
use Rattle.plan_match.specs.Equal.{same_rule, same_rule-Decides}
use Rattle.plan_match.proofs.rule.RulePartialEq.eq.Goals as goal

pub returns-in-Cron-Cron-clause-same : goal.returns-in-Cron-Cron-clause-same
returns-in-Cron-Cron-clause-same c =
    let a = c.args.self.now in
    let b = c.args.other.now in
    let tested : c.eq.result ≡ same_rule a b = search rules in
    Decides-at c.eq.result (same_rule a b) tested (same_rule-Decides a b)

pub returns-in-Events-Events-clause-same : goal.returns-in-Events-Events-clause-same
returns-in-Events-Events-clause-same c =
    let a = c.args.self.now in
    let b = c.args.other.now in
    let tested : c.eq-in-Events-Events.result ≡ same_rule a b = search rules in
    Decides-at c.eq-in-Events-Events.result (same_rule a b) tested (same_rule-Decides a b)
