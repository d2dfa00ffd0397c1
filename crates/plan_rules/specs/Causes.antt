-- The names of causes, as `Display` and error lines show them (agenda).
use Rattle.std.specs.Prelude.{ℕ, List, codes}
use Rattle.plan_grammar.specs.Causes.{rule_cause}
use Rattle.plan_rules.specs.declared.line_fault.LineCause.{LineCause}
use Rattle.plan_rules.specs.declared.line_fault.LineCause.TheVariants as line

-- the name of a cause of a line of a crontab or of a timer file; for a rule, the name of the rule's cause
abbrev pub line_cause : LineCause → List ℕ
line_cause line.NoMemory = codes "NoMemory"
line_cause line.NotUtf8 = codes "NotUtf8"
line_cause line.TooLarge = codes "TooLarge"
line_cause line.BadSetting = codes "BadSetting"
line_cause (line.Rule fault) = rule_cause fault.cause
line_cause line.NoCommand = codes "NoCommand"
line_cause line.BadTimerName = codes "BadTimerName"
line_cause line.NoTimerSection = codes "NoTimerSection"
line_cause line.TooManyLines = codes "TooManyLines"
line_cause line.BadTabName = codes "BadTabName"
