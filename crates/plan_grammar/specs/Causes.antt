-- The names of causes, as `Display` and error lines show them (agenda).
use Rattle.std.specs.Prelude.{ℕ, List, codes}
use Rattle.plan_sets.specs.Causes.{set_cause}
use Rattle.plan_grammar.specs.declared.fault.RuleCause.{RuleCause}
use Rattle.plan_grammar.specs.declared.fault.RuleCause.TheVariants as rule

-- the name of the cause of a rule's error
abbrev pub rule_cause : RuleCause → List ℕ
rule_cause rule.NoMemory = codes "NoMemory"
rule_cause rule.WrongParts = codes "WrongParts"
rule_cause rule.BadNumber = codes "BadNumber"
rule_cause rule.BadName = codes "BadName"
rule_cause (rule.Values cause) = set_cause cause
rule_cause rule.Fraction = codes "Fraction"
rule_cause rule.Zone = codes "Zone"
rule_cause rule.UnknownZone = codes "Zone"
rule_cause rule.UnknownWord = codes "UnknownWord"
rule_cause rule.Specifier = codes "Specifier"
