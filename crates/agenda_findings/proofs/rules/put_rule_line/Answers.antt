use Rattle.std.proofs.Common.{codes, refl}
use Rattle.plan_rules.specs.declared.LineCause.TheVariants as line
use Rattle.plan_check.specs.declared.FindingKind.TheVariants.{Rejected}
use Rattle.plan_write.proofs.TakesLemmas.{takes_three}
use Rattle.agenda_findings.specs.Findings.{after_message}
use Rattle.agenda_findings.specs.Rules.{asked_message, rule_line}
use Rattle.agenda_findings.proofs.rules.put_rule_line.Goals as goal

pub returns : goal.returns
returns g c =
    takes_three g.S.Stream.holds g.S.Stream.takes_all c.args.line.now c.put.new.self c.put_asked_message.new.line
    c.put_after_message.new.lines (codes "agenda: rule: ") (asked_message c.args.asked.now c.args.fault)
    (after_message (Rejected (line.Rule c.args.fault))) (rule_line c.args.asked.now c.args.fault) c.put.ensures
    c.put_asked_message.ensures (rw c.kind_of.ensures at c.put_after_message.ensures) refl
