-- The lines of errors, as the program writes them on standard error (agenda).
use Rattle.std.specs.Prelude.{ℕ, List, [], ◌++◌, codes, decimal, Option, None, Some, slice_get, unwrap_or}
use Rattle.plan_rules.specs.declared.RuleCause.{RuleCause}
use Rattle.plan_rules.specs.declared.RuleCause.TheVariants as cause
use Rattle.agenda_script.specs.declared.fault.ScriptCause.{ScriptCause}
use Rattle.agenda_script.specs.declared.fault.ScriptCause.TheVariants as script
use Rattle.agenda_faults.specs.declared.faults.RunFault.{RunFault}
use Rattle.agenda_faults.specs.declared.faults.RunFault.TheVariants.{NoMemory, BadCount, Rule, InSource, SameName, Full, Plan, Script, Device, BadLeast, TooManyStarts}
use Rattle.agenda_faults.specs.declared.faults.Failure.{Failure}
use Rattle.agenda_faults.specs.declared.faults.Failure.TheVariants.{Usage, Moment, Span, Zone, Run, File, BadBaseline, NotDirectory, NoSystem, TooManyUnits, Machine}
use Rattle.agenda_faults.specs.declared.machine_faults.TimeOption.{TimeOption}
use Rattle.agenda_faults.specs.declared.machine_faults.TimeOption.TheVariants as option
use Rattle.plan_rules.specs.declared.LineCause.{LineCause}
use Rattle.plan_rules.specs.declared.LineCause.TheVariants as on_line
use Rattle.plan_collect.specs.declared.CollectFault.{CollectFault}
use Rattle.plan_collect.specs.declared.CollectFault.TheVariants as collect
use Rattle.plan_collect.specs.declared.PlanFault.{PlanFault}
use Rattle.plan_collect.specs.declared.PlanFault.TheVariants as plan
use Rattle.agenda_script.specs.Causes.{script_cause}
use Rattle.plan_collect.specs.Causes.{collect_cause}
use Rattle.plan_collect.specs.Span.{span_cause}
use Rattle.plan_grammar.specs.Causes.{rule_cause}
use Rattle.plan_rules.specs.Causes.{line_cause}
use Rattle.plan_sets.specs.Causes.{moment_cause}
use Rattle.plan_streams.specs.declared.WriteFault.{WriteFault}
use Rattle.plan_streams.specs.declared.WriteFault.TheVariants as stream
use Rattle.plan_zones.specs.declared.zone_fault.ZoneFault.{ZoneFault}
use Rattle.plan_zones.specs.declared.zone_fault.ZoneFault.TheVariants as zone
use Rattle.plan_zones.specs.Zones.{zone_fault_name}
use Rattle.agenda_sources.specs.Name.{file_name}
use Rattle.plan_rules.specs.SourceKind.{label_of}
use Rattle.agenda_sources.specs.declared.SourcePath.{SourcePath}
use Rattle.agenda_faults.specs.MachineLines.{machine_line, memory_line, too_many_line}

-- a cause, after the text that says what it is about
abbrev pub caused_line : List ℕ → List ℕ → List ℕ
caused_line about cause = about ++ (cause ++ codes "\n")

-- a number in decimal and a cause, after the text that says what they are about
abbrev pub numbered_line : List ℕ → ℕ → List ℕ → List ℕ
numbered_line about number cause = about ++ (decimal number ++ caused_line (codes ": ") cause)

-- the rule of `next`: its part and cause. If an allocation failed, the line has no part
abbrev pub rule_line : ℕ → RuleCause → List ℕ
rule_line part cause.NoMemory = memory_line
rule_line part fault = numbered_line (codes "agenda: rule: part ") part (rule_cause fault)

-- a script: its line and cause. If an allocation failed, no line is named
abbrev pub script_line : ℕ → ScriptCause → List ℕ
script_line line script.NoMemory = memory_line
script_line line fault = numbered_line (codes "agenda: script: line ") line (script_cause fault)

-- an error on a line of a crontab or a timer file: the source's name, the line's number and the cause
abbrev pub text_of_line : (source : List ℕ) → (line : ℕ) → (cause : List ℕ) → List ℕ
text_of_line source line cause = codes "agenda: " ++ (source ++ numbered_line (codes ": line ") line cause)

-- an error in a part of a rule on such a line: also the part's number
abbrev pub text_of_part : (source : List ℕ) → (line part : ℕ) → (cause : List ℕ) → List ℕ
text_of_part source line part cause =
    codes "agenda: " ++ (source ++ (codes ": line " ++ (decimal line ++ numbered_line (codes ": part ") part cause)))

-- a rule on a line of a crontab or a timer file. If an allocation failed, no line is named
abbrev pub source_rule_line : List ℕ → (line part : ℕ) → RuleCause → List ℕ
source_rule_line source line part cause.NoMemory = memory_line
source_rule_line source line part fault = text_of_part source line part (rule_cause fault)

-- a crontab or a timer file that is rejected. If an allocation failed, no line is named
abbrev pub source_line : List ℕ → ℕ → LineCause → List ℕ
source_line source line on_line.NoMemory = memory_line
source_line source line (on_line.Rule fault) = source_rule_line source line fault.part fault.cause
source_line source line fault = text_of_line source line (line_cause fault)

-- the name of a source in error lines: the label of its kind, or its file's name
abbrev pub name_of : SourcePath → List ℕ
name_of source = unwrap_or (label_of source.kind) (file_name source.path)

-- the name of a source that may be missing
abbrev pub name_in : Option SourcePath → List ℕ
name_in None = []
name_in (Some source) = name_of source

-- the name of the source at a place
abbrev pub source_name : List SourcePath → ℕ → List ℕ
source_name sources place = name_in (slice_get sources place)

-- an error of a collector. If an allocation failed, no cause is named
abbrev pub collect_line : CollectFault → List ℕ
collect_line collect.NoMemory = memory_line
collect_line fault = caused_line (codes "agenda: plan: ") (collect_cause fault)

-- a plan that was not made. If an allocation failed, no cause is named
abbrev pub plan_line : PlanFault → List ℕ
plan_line plan.NoMemory = memory_line
plan_line plan.BadSize = codes "agenda: plan: BadSize\n"
plan_line (plan.Collect fault) = collect_line fault
plan_line (plan.NotSettled unsettled) = codes "agenda: NotSettled\n"
plan_line plan.BadLimit = codes "agenda: plan: BadLimit\n"

-- a stream that failed; there is no line if the reader of a pipe closed it
abbrev pub device_line : WriteFault → List ℕ
device_line stream.Device = codes "agenda: Device\n"
device_line stream.Closed = []

-- a command that was not done, with the paths of the plan's sources
abbrev pub run_line : List SourcePath → RunFault → List ℕ
run_line sources NoMemory = memory_line
run_line sources BadCount = codes "agenda: count: BadCount\n"
run_line sources (Rule fault) = rule_line fault.part fault.cause
run_line sources (InSource place fault) = source_line (source_name sources place) fault.line fault.cause
run_line sources (SameName name) = codes "agenda: job " ++ (name ++ codes ": SameName\n")
run_line sources Full = codes "agenda: jobs: Full\n"
run_line sources (Plan fault) = plan_line fault
run_line sources (Script fault) = script_line fault.line fault.cause
run_line sources (Device fault) = device_line fault
run_line sources BadLeast = codes "agenda: quiet: BadLeast\n"
run_line sources (TooManyStarts limit) = too_many_line limit

-- a zone that can't be used. If an allocation failed, the zone is not named
abbrev pub zone_line : ZoneFault → List ℕ
zone_line zone.NoMemory = memory_line
zone_line fault = caused_line (codes "agenda: zone: ") (zone_fault_name fault)

-- what a timestamp is about: the option that gives it
abbrev pub about_option : TimeOption → List ℕ
about_option option.After = codes "agenda: after: "
about_option option.Since = codes "agenda: since: "
about_option option.Until = codes "agenda: upto: "

-- a line of an agenda that isn't one that `plan` prints
abbrev pub baseline_line : (path : List ℕ) → (line : ℕ) → List ℕ
baseline_line path line =
    codes "agenda: " ++ (path ++ numbered_line (codes ":") line (codes "not a line of agenda plan [BadBaseline]"))

-- what standard error gets: the text of usage unchanged, or one line
abbrev pub fault_text : List SourcePath → Failure → List ℕ
fault_text sources (Usage text) = text
fault_text sources (Moment option fault) = caused_line (about_option option) (moment_cause fault)
fault_text sources (Span fault) = caused_line (codes "agenda: span: ") (span_cause fault)
fault_text sources (Zone fault) = zone_line fault
fault_text sources (Run fault) = run_line sources fault
fault_text sources (File path) = codes "agenda: " ++ (path ++ codes ": Device\n")
fault_text sources (BadBaseline path line) = baseline_line path line
fault_text sources (NotDirectory root) = codes "agenda: " ++ (root ++ codes ": not a directory\n")
fault_text sources (NoSystem root) = codes "agenda: " ++ (root ++ codes ": neither etc nor usr is there\n")
fault_text sources (TooManyUnits root) = codes "agenda: " ++ (root ++ codes ": more than 10000 units\n")
fault_text sources (Machine fault) = machine_line fault
