-- The messages of findings, in words. They are our choice (agenda).
use Rattle.std.specs.Prelude.{ℕ, ◌==◌, if◌then◌else◌, List, [], ◌++◌, codes, Option, Some, None}
use Rattle.std.specs.List.{flat_map}
use Rattle.plan_sets.specs.declared.SetFault.TheVariants as set
use Rattle.plan_grammar.specs.declared.RuleCause.{RuleCause}
use Rattle.plan_grammar.specs.declared.RuleCause.TheVariants as rule
use Rattle.plan_grammar.specs.declared.RuleFault.{RuleFault}
use Rattle.plan_rules.specs.Causes.{line_cause}
use Rattle.plan_rules.specs.declared.LineCause.{LineCause}
use Rattle.plan_rules.specs.declared.LineCause.TheVariants as line
use Rattle.plan_rules.specs.declared.SourceKind.{SourceKind}
use Rattle.plan_rules.specs.declared.SourceKind.TheVariants.{System, CronD, Timer}
use Rattle.plan_check.specs.Finding.{warning_name}
use Rattle.plan_check.specs.declared.FindingKind.{FindingKind}
use Rattle.plan_check.specs.declared.FindingKind.TheVariants.{Rejected, SameName, Full, Warned, Denied}
use Rattle.agenda_findings.specs.Quotes.{around, escaped, quoted}
use Rattle.agenda_findings.specs.Warnings.{warning_message}

-- ---- errors of rules

-- the name of a field of a cron rule, by its place from 1 (crontab(5), fields)
unfoldable pub field_name : ℕ → List ℕ
field_name part =
    if part == 1 then codes "minute"
    else (if part == 2 then codes "hour"
    else (if part == 3 then codes "day of month" else (if part == 4 then codes "month" else codes "day of week")))

-- the values of a field of a cron rule (crontab(5), fields)
unfoldable pub field_values : ℕ → List ℕ
field_values part =
    if part == 1 then codes "0-59"
    else (if part == 2 then codes "0-23" else (if part == 3 then codes "1-31" else (if part == 4 then codes "1-12" else codes "0-7")))

-- the name of a part of an event, by its place from 1 (systemd.time(7), calendar events)
unfoldable pub part_name : ℕ → List ℕ
part_name part =
    if part == 1 then codes "weekday"
    else (if part == 2 then codes "year"
    else (if part == 3 then codes "month"
    else (if part == 4 then codes "day"
    else (if part == 5 then codes "hour"
    else (if part == 6 then codes "minute" else (if part == 7 then codes "second" else codes "time zone"))))))

-- the values of a part of an event (systemd.time(7), calendar events; years: (agenda))
unfoldable pub part_values : ℕ → List ℕ
part_values part =
    if part == 2 then codes "1970-2999"
    else (if part == 3 then codes "1-12" else (if part == 4 then codes "1-31" else (if part == 5 then codes "0-23" else codes "0-59")))

-- what is wrong with a part, before its possible values; `wrong` says what may not be there
unfoldable pub problem_text : RuleCause → (wrong : List ℕ) → List ℕ
problem_text (rule.Values set.NoItem) wrong = codes "no value"
problem_text (rule.Values set.OutOfRange) wrong = codes "out of range "
problem_text (rule.Values set.Backwards) wrong = codes "range runs backwards"
problem_text (rule.Values set.ZeroStep) wrong = codes "step of zero"
problem_text rule.BadNumber wrong = codes "not a number of one to four digits"
problem_text rule.BadName wrong = codes "unknown name"
problem_text rule.Fraction wrong = codes "fractions are not supported"
problem_text rule.Zone wrong = codes "only UTC is supported without --event-zones"
problem_text rule.UnknownZone wrong = codes "unknown"
problem_text other wrong = wrong

-- the possible values of a part, if a value is out of them
unfoldable pub range_of : RuleCause → (values : List ℕ) → List ℕ
range_of (rule.Values set.OutOfRange) values = values
range_of other values = []

-- what is wrong with a part, whose possible values are given, and what may not be there
abbrev pub problem : RuleCause → (values wrong : List ℕ) → List ℕ
problem cause values wrong = problem_text cause wrong ++ range_of cause values

-- the same, after what the part is
abbrev pub problem_after : RuleCause → (values wrong : List ℕ) → List ℕ
problem_after cause values wrong = codes ": " ++ problem cause values wrong

-- fields are missing
abbrev pub expected_fields : List ℕ
expected_fields = codes "expected five fields and a command"

-- a word that begins with `@` is unknown
abbrev pub unknown_word : (word : List ℕ) → List ℕ
unknown_word word = around (codes "unknown word ") word []

-- the error of a whole cron rule
abbrev pub whole_rule : RuleCause → (quote : List ℕ) → List ℕ
whole_rule rule.UnknownWord quote = unknown_word quote
whole_rule other quote = expected_fields

-- the error of a field of a cron rule
abbrev pub field_message : RuleFault → (quote : List ℕ) → List ℕ
field_message fault quote =
    field_name fault.part
    ++ (codes " "
    ++ (quoted quote ++ problem_after fault.cause (field_values fault.part) (codes "empty value, or a step after a single value")))

-- the error of a cron rule; part 0 is the whole rule
abbrev pub cron_message : RuleFault → (quote : List ℕ) → List ℕ
cron_message fault quote = if fault.part == 0 then whole_rule fault.cause quote else field_message fault quote

-- an event contains specifiers
abbrev pub with_specifiers : (event : List ℕ) → List ℕ
with_specifiers event = around (codes "specifiers in ") event (codes " are not expanded")

-- a text is no event
abbrev pub no_event : (event : List ℕ) → List ℕ
no_event event = around [] event (codes " is not a calendar event")

-- the error of a whole event
abbrev pub whole_event : RuleCause → (quote : List ℕ) → List ℕ
whole_event rule.Specifier quote = with_specifiers quote
whole_event other quote = no_event quote

-- the error of a part of an event
abbrev pub part_message : RuleFault → (quote : List ℕ) → List ℕ
part_message fault quote =
    part_name fault.part
    ++ (codes " in "
    ++ (quoted quote ++ problem_after fault.cause (part_values fault.part) (codes "empty value, or a step after *")))

-- the error of an event; part 0 is the whole event
abbrev pub event_message : RuleFault → (quote : List ℕ) → List ℕ
event_message fault quote = if fault.part == 0 then whole_event fault.cause quote else part_message fault quote

-- the error of a rule in a source of a kind
abbrev pub rule_message : SourceKind → RuleFault → (quote : List ℕ) → List ℕ
rule_message Timer fault quote = event_message fault quote
rule_message other fault quote = cron_message fault quote

-- ---- other errors

-- what is missing after a rule: in the format of the system's crontab a user comes before the command (crontab(5))
unfoldable pub missing_command : SourceKind → List ℕ
missing_command System = codes "expected a user and a command"
missing_command CronD = codes "expected a user and a command"
missing_command other = codes "no command"

-- the error of a line, or of a whole file, that isn't the error of a rule
unfoldable pub plain_message : SourceKind → LineCause → List ℕ
plain_message source line.NoMemory = codes "out of memory"
plain_message source line.NotUtf8 = codes "not UTF-8"
plain_message source line.TooLarge = codes "larger than 1048576 bytes"
plain_message source line.BadSetting = codes "expected NAME=VALUE, or five fields and a command"
plain_message source (line.Rule fault) = []
plain_message source line.NoCommand = missing_command source
plain_message source line.BadTimerName = codes "not a timer's name: it must end in .timer and name no template"
plain_message source line.NoTimerSection = codes "no [Timer] section"
plain_message source line.TooManyLines = codes "more than 64 events"
plain_message source line.BadTabName = codes "not a name that cron reads"

-- the error of a line, or of a whole file
abbrev pub line_message : SourceKind → LineCause → (quote : List ℕ) → List ℕ
line_message source (line.Rule fault) quote = rule_message source fault quote
line_message source other quote = plain_message source other

-- ---- all findings

-- another job has the name of a job
abbrev pub same_name : (name : List ℕ) → List ℕ
same_name name = around (codes "another job is named ") name []

-- there are too many jobs
abbrev pub full_message : List ℕ
full_message = codes "more than 1000 jobs"

-- a finding in a source of a kind, before what it ends with
abbrev pub message : SourceKind → FindingKind → (quote : List ℕ) → List ℕ
message source (Rejected cause) quote = line_message source cause quote
message source SameName quote = same_name quote
message source Full quote = full_message
message source (Warned warning) quote = warning_message warning quote
message source (Denied warning) quote = warning_message warning quote

-- a text in brackets, after a blank
abbrev pub in_brackets : List ℕ → List ℕ
in_brackets text = codes " (" ++ (flat_map escaped text ++ codes ")")

-- what a message ends with: of an error in brackets, of a warning as it is
abbrev pub detail_in : FindingKind → Option (List ℕ) → List ℕ
detail_in kind None = []
detail_in (Warned warning) (Some detail) = flat_map escaped detail
detail_in (Denied warning) (Some detail) = flat_map escaped detail
detail_in other (Some detail) = in_brackets detail

-- what was rejected is an error
abbrev pub severity : FindingKind → List ℕ
severity (Warned warning) = codes "warning"
severity other = codes "error"

-- the code of a finding: the name of its cause, as one-line errors show it
abbrev pub code_of : FindingKind → List ℕ
code_of (Rejected cause) = line_cause cause
code_of SameName = codes "SameName"
code_of Full = codes "Full"
code_of (Warned warning) = warning_name warning
code_of (Denied warning) = warning_name warning
