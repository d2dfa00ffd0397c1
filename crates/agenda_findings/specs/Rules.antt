-- The line of the error of a rule that is given by itself (agenda).
use Rattle.std.specs.Prelude.{ℕ, List, ◌++◌, codes}
use Rattle.plan_grammar.specs.declared.RuleFault.{RuleFault}
use Rattle.plan_rules.specs.declared.LineCause.TheVariants as line
use Rattle.plan_cron.specs.Words.{word_at}
use Rattle.plan_check.specs.declared.FindingKind.TheVariants.{Rejected}
use Rattle.agenda_sources.specs.declared.Asked.{Asked}
use Rattle.agenda_sources.specs.declared.Asked.TheVariants.{Cron, Event}
use Rattle.agenda_findings.specs.Findings.{after_message}
use Rattle.agenda_findings.specs.Messages.{cron_message, event_message}

-- the message of the error: it quotes the field that the error is about, or the event
abbrev pub asked_message : Asked → RuleFault → List ℕ
asked_message (Cron text) fault = cron_message fault (word_at text fault.part)
asked_message (Event text) fault = event_message fault text

-- the line of the error
abbrev pub rule_line : Asked → RuleFault → List ℕ
rule_line asked fault = codes "agenda: rule: " ++ (asked_message asked fault ++ after_message (Rejected (line.Rule fault)))
