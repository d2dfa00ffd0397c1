-- Which code the line of each error ends with. There is a lemma for each kind of line, by the cases of its error.
-- A line is put together from the front, and its end is a name and a newline: a text before that changes nothing (`longer`).
use Rattle.std.proofs.Common.{◌≡◌, ◌∙◌, ℕ, List, ◌++◌, Option, None, Some, ap, refl, sym, append_assoc, codes, true, false}
use Rattle.std.specs.Prelude.{decimal}
use Rattle.plan_sets.specs.Causes.{moment_cause}
use Rattle.plan_sets.specs.declared.MomentFault.{MomentFault}
use Rattle.plan_sets.specs.declared.MomentFault.TheVariants as moment
use Rattle.plan_sets.specs.declared.SetFault.TheVariants as set
use Rattle.plan_zones.specs.Zones.{zone_fault_name}
use Rattle.plan_zones.specs.declared.ZoneFault.{ZoneFault}
use Rattle.plan_zones.specs.declared.ZoneFault.TheVariants as zone
use Rattle.plan_grammar.specs.Causes.{rule_cause}
use Rattle.plan_grammar.specs.declared.RuleCause.{RuleCause}
use Rattle.plan_grammar.specs.declared.RuleCause.TheVariants as rule
use Rattle.plan_rules.specs.Causes.{line_cause}
use Rattle.plan_rules.specs.declared.LineCause.{LineCause}
use Rattle.plan_rules.specs.declared.LineCause.TheVariants as line
use Rattle.plan_check.specs.Finding.{warning_name}
use Rattle.plan_check.specs.declared.Warning.{Warning}
use Rattle.plan_check.specs.declared.Warning.TheVariants as warning
use Rattle.plan_collect.specs.Span.{span_cause}
use Rattle.plan_collect.specs.declared.CollectFault.TheVariants as collect
use Rattle.plan_collect.specs.declared.PlanFault.{PlanFault}
use Rattle.plan_collect.specs.declared.PlanFault.TheVariants as plan
use Rattle.plan_collect.specs.declared.SpanFault.{SpanFault}
use Rattle.plan_collect.specs.declared.SpanFault.TheVariants as span
use Rattle.agenda_sources.specs.declared.SourcePath.{SourcePath}
use Rattle.agenda_script.specs.Causes.{script_cause}
use Rattle.agenda_script.specs.declared.ScriptCause.{ScriptCause}
use Rattle.agenda_script.specs.declared.ScriptCause.TheVariants as script
use Rattle.plan_streams.specs.declared.WriteFault.TheVariants as stream
use Rattle.agenda_codes.specs.declared.Code.{Code}
use Rattle.agenda_codes.specs.declared.Code.TheVariants as code
use Rattle.agenda_codes.specs.Codes.{name_of}
use Rattle.agenda_codes.specs.Warned.{is_of_warning}
use Rattle.agenda_faults.specs.FaultLines.{about_option, caused_line, fault_text, numbered_line, plan_line, rule_line, run_line, script_line, source_line, source_name, source_rule_line, text_of_line, text_of_part, zone_line}
use Rattle.agenda_faults.specs.declared.faults.RunFault.{RunFault}
use Rattle.agenda_faults.specs.declared.faults.RunFault.TheVariants as run
use Rattle.agenda_faults.specs.declared.faults.Failure.{Failure}
use Rattle.agenda_faults.specs.declared.faults.Failure.TheVariants as failure
use Rattle.agenda_faults.specs.MachineLines.{machine_line, memory_line, named_zone_line, no_zone_line, number_code, number_line, number_name, option_name, range_words, time_line}
use Rattle.agenda_faults.specs.declared.machine_faults.MachineFault.{MachineFault}
use Rattle.agenda_faults.specs.declared.machine_faults.MachineFault.TheVariants as machine
use Rattle.agenda_faults.specs.declared.machine_faults.NumberOption.{NumberOption}
use Rattle.agenda_faults.specs.declared.machine_faults.NumberOption.TheVariants as number
use Rattle.agenda_faults.specs.declared.machine_faults.TimeOption.{TimeOption}
use Rattle.plan_times.specs.declared.fault.TimeFault.{TimeFault}
use Rattle.plan_times.specs.declared.fault.TimeFault.TheVariants as time
use Rattle.agenda_commands.specs.CodeLaws.{ComesInPlan, ComesInRule, ComesInRun, ComesOnLine, EndsWithCode, HasCode, HasLine, HasWarningCode, ending}

-- ---- the names of causes

has : (code : Code) → HasCode (name_of code)
has code = record { code = code; is = refl }

moment_has : (cause : MomentFault) → HasCode (moment_cause cause)
moment_has moment.BadForm = has code.BadForm
moment_has moment.NoSuchDate = has code.NoSuchDate
moment_has moment.OutOfYears = has code.OutOfYears

span_has : (cause : SpanFault) → HasCode (span_cause cause)
span_has span.Backwards = has code.Backwards
span_has span.OutOfYears = has code.OutOfYears

zone_has : (cause : ZoneFault) → HasCode (zone_fault_name cause)
zone_has zone.NoMemory = has code.NoMemory
zone_has zone.BadZoneName = has code.BadZoneName
zone_has zone.NoSuchZone = has code.NoSuchZone
zone_has zone.TooLarge = has code.TooLarge
zone_has zone.BadZone = has code.BadZone

rule_has : (cause : RuleCause) → ComesInRule cause → HasCode (rule_cause cause)
rule_has rule.NoMemory comes = has code.NoMemory
rule_has rule.WrongParts comes = has code.WrongParts
rule_has rule.BadNumber comes = has code.BadNumber
rule_has rule.BadName comes = has code.BadName
rule_has (rule.Values set.NoItem) comes = absurd comes
rule_has (rule.Values set.OutOfRange) comes = has code.OutOfRange
rule_has (rule.Values set.Backwards) comes = has code.Backwards
rule_has (rule.Values set.ZeroStep) comes = has code.ZeroStep
rule_has rule.Fraction comes = has code.Fraction
rule_has rule.Zone comes = has code.Zone
rule_has rule.UnknownZone comes = has code.Zone
rule_has rule.UnknownWord comes = has code.UnknownWord
rule_has rule.Specifier comes = has code.Specifier

pub line_has : (cause : LineCause) → ComesOnLine cause → HasCode (line_cause cause)
line_has line.NoMemory comes = has code.NoMemory
line_has line.NotUtf8 comes = has code.NotUtf8
line_has line.TooLarge comes = has code.TooLarge
line_has line.BadSetting comes = has code.BadSetting
line_has (line.Rule fault) comes = rule_has fault.cause comes
line_has line.NoCommand comes = has code.NoCommand
line_has line.BadTimerName comes = has code.BadTimerName
line_has line.NoTimerSection comes = has code.NoTimerSection
line_has line.TooManyLines comes = has code.TooManyLines
line_has line.BadTabName comes = has code.BadTabName

warns : (code : Code) → is_of_warning code ≡ true → HasWarningCode (name_of code)
warns code of = record { code = code; is = refl; of_warning = of }

pub warning_has : (warning : Warning) → HasWarningCode (warning_name warning)
warning_has warning.NeverStarts = warns code.NeverStarts refl
warning_has warning.EitherDay = warns code.EitherDay refl
warning_has warning.NoEvents = warns code.NoEvents refl
warning_has warning.Percent = warns code.Percent refl
warning_has warning.CarriageReturn = warns code.CarriageReturn refl
warning_has warning.ZoneSetting = warns code.ZoneSetting refl
warning_has warning.SkippedStarts = warns code.SkippedStarts refl
warning_has warning.UnknownKey = warns code.UnknownKey refl
warning_has warning.BadDelay = warns code.BadDelay refl
warning_has warning.BadBoolean = warns code.BadBoolean refl
warning_has warning.Monotonic = warns code.Monotonic refl
warning_has warning.Delayed = warns code.Delayed refl
warning_has warning.SystemdRejects = warns code.SystemdRejects refl
warning_has warning.RangeFromEnd = warns code.RangeFromEnd refl
warning_has warning.MayStop = warns code.MayStop refl
warning_has warning.Merged = warns code.Merged refl
warning_has warning.CronIgnores = warns code.CronIgnores refl
warning_has warning.CronDiffers = warns code.CronDiffers refl
warning_has warning.NoUser = warns code.NoUser refl
warning_has warning.TimerRejected = warns code.TimerRejected refl
warning_has warning.UnitIgnored = warns code.UnitIgnored refl
warning_has warning.LineEnd = warns code.LineEnd refl

script_has : (cause : ScriptCause) → HasCode (script_cause cause)
script_has script.NoMemory = has code.NoMemory
script_has script.NotUtf8 = has code.NotUtf8
script_has script.TooLarge = has code.TooLarge
script_has script.BadLine = has code.BadLine
script_has script.BadSize = has code.BadSize
script_has script.TooManySteps = has code.TooManySteps

number_has : (option : NumberOption) → HasCode (number_code option)
number_has number.Count = has code.BadCount
number_has number.Limit = has code.BadLimit
number_has number.Planners = has code.BadSize
number_has number.Room = has code.BadSize

-- ---- the forms of lines

ends : (front : List ℕ) (code : Code) → EndsWithCode (front ++ (name_of code ++ codes "\n"))
ends front code = record { front = front; is_in_words = false; code = code; is = refl }

-- a line in words
in_words : (front : List ℕ) (code : Code) → EndsWithCode (front ++ (codes "[" ++ (name_of code ++ codes "]\n")))
in_words front code = record { front = front; is_in_words = true; code = code; is = refl }

-- the same, with the name of a code
named_in_words : (front name : List ℕ) → HasCode name → EndsWithCode (front ++ (codes "[" ++ (name ++ codes "]\n")))
named_in_words front name has = record {
  front = front;
  is_in_words = true;
  code = has.code;
  is = ap (λ n. front ++ (codes "[" ++ (n ++ codes "]\n"))) has.is;
}

longer : (front text : List ℕ) → EndsWithCode text → EndsWithCode (front ++ text)
longer front text end = record {
  front = front ++ end.front;
  is_in_words = end.is_in_words;
  code = end.code;
  is = ap (λ t. front ++ t) end.is ∙ sym (append_assoc front end.front (ending end.is_in_words end.code));
}

caused : (about name : List ℕ) → HasCode name → EndsWithCode (caused_line about name)
caused about name has =
    record { front = about; is_in_words = false; code = has.code; is = ap (λ n. about ++ (n ++ codes "\n")) has.is }

numbered : (about : List ℕ) (number : ℕ) (name : List ℕ) → HasCode name → EndsWithCode (numbered_line about number name)
numbered about number name has = longer about _ (longer (decimal number) _ (caused (codes ": ") name has))

on_line : (source : List ℕ) (number : ℕ) (name : List ℕ) → HasCode name → EndsWithCode (text_of_line source number name)
on_line source number name has = longer (codes "agenda: ") _ (longer source _ (numbered (codes ": line ") number name has))

in_part : (source : List ℕ) (number part : ℕ) (name : List ℕ) → HasCode name → EndsWithCode (text_of_part source number part name)
in_part source number part name has = longer (codes "agenda: ") _ (longer source _ (longer (codes ": line ") _ (longer (decimal number) _
    (numbered (codes ": part ") part name has))))

memory : EndsWithCode memory_line
memory = ends (codes "agenda: ") code.NoMemory

-- ---- the lines of errors

ends_rule : (part : ℕ) (cause : RuleCause) → ComesInRule cause → EndsWithCode (rule_line part cause)
ends_rule part rule.NoMemory comes = memory
ends_rule part other comes = numbered (codes "agenda: rule: part ") part (rule_cause other) (rule_has other comes)

ends_script : (number : ℕ) (cause : ScriptCause) → EndsWithCode (script_line number cause)
ends_script number script.NoMemory = memory
ends_script number other = numbered (codes "agenda: script: line ") number (script_cause other) (script_has other)

ends_source_rule :
    (source : List ℕ) (number part : ℕ) (cause : RuleCause) → ComesInRule cause → EndsWithCode (source_rule_line source number part cause)
ends_source_rule source number part rule.NoMemory comes = memory
ends_source_rule source number part other comes = in_part source number part (rule_cause other) (rule_has other comes)

ends_source : (source : List ℕ) (number : ℕ) (cause : LineCause) → ComesOnLine cause → EndsWithCode (source_line source number cause)
ends_source source number line.NoMemory comes = memory
ends_source source number (line.Rule fault) comes = ends_source_rule source number fault.part fault.cause comes
ends_source source number other comes = on_line source number (line_cause other) (line_has other comes)

ends_plan : (fault : PlanFault) → ComesInPlan fault → EndsWithCode (plan_line fault)
ends_plan plan.NoMemory comes = memory
ends_plan plan.BadSize comes = ends (codes "agenda: plan: ") code.BadSize
ends_plan (plan.Collect collect.NoMemory) comes = memory
ends_plan (plan.Collect collect.TooMany) comes = ends (codes "agenda: plan: ") code.TooMany
ends_plan (plan.Collect collect.Stranger) comes = absurd comes
ends_plan (plan.Collect collect.Gap) comes = absurd comes
ends_plan (plan.Collect collect.AfterLast) comes = absurd comes
ends_plan (plan.Collect collect.Missing) comes = absurd comes
ends_plan (plan.NotSettled unsettled) comes = ends (codes "agenda: ") code.NotSettled
ends_plan plan.BadLimit comes = ends (codes "agenda: plan: ") code.BadLimit

ends_run : (sources : List SourcePath) (fault : RunFault) → ComesInRun fault → EndsWithCode (run_line sources fault)
ends_run sources run.NoMemory comes = memory
ends_run sources run.BadCount comes = ends (codes "agenda: count: ") code.BadCount
ends_run sources (run.Rule fault) comes = ends_rule fault.part fault.cause comes
ends_run sources (run.InSource place fault) comes = ends_source (source_name sources place) fault.line fault.cause comes
ends_run sources (run.SameName name) comes = longer (codes "agenda: job ") _ (longer name _ (ends (codes ": ") code.SameName))
ends_run sources run.Full comes = ends (codes "agenda: jobs: ") code.Full
ends_run sources (run.Plan fault) comes = ends_plan fault comes
ends_run sources (run.Script fault) comes = ends_script fault.line fault.cause
ends_run sources (run.Device stream.Device) comes = ends (codes "agenda: ") code.Device
ends_run sources (run.Device stream.Closed) comes = absurd comes
ends_run sources run.BadLeast comes = ends (codes "agenda: quiet: ") code.BadLeast
ends_run sources (run.TooManyStarts limit) comes =
    longer (codes "agenda: more than ") _ (longer (decimal limit) _
    (in_words (codes " starts: give a shorter span, or --limit N ") code.TooMany))

ends_zone : (fault : ZoneFault) → EndsWithCode (zone_line fault)
ends_zone zone.NoMemory = memory
ends_zone other = caused (codes "agenda: zone: ") (zone_fault_name other) (zone_has other)

ends_time : (option : TimeOption) (fault : TimeFault) (text : List ℕ) → EndsWithCode (time_line option fault text)
ends_time option time.BadTime text =
    longer (codes "agenda: ") _ (longer (option_name option) _ (longer (codes ": not a time: '") _ (longer text _
    (in_words (codes "' (such as 'tomorrow 02:00', '+8h', '2026-12-01 22:00') ") code.BadTime))))
ends_time option time.OutOfYears text =
    longer (codes "agenda: ") _ (longer (option_name option) _ (longer (codes ": before 1970 or after 2999: '") _ (longer text _
    (in_words (codes "' ") code.OutOfYears))))

ends_no_zone : (text : List ℕ) (like : Option (List ℕ)) → EndsWithCode (no_zone_line text like)
ends_no_zone text None =
    longer (codes "agenda: zone '") _ (longer text _ (in_words (codes "': no such zone ") code.NoSuchZone))
ends_no_zone text (Some name) =
    longer (codes "agenda: zone '") _ (longer text _ (longer (codes "': no such zone; did you mean ") _ (longer name _
    (in_words (codes "? ") code.NoSuchZone))))

ends_named_zone : (text : List ℕ) (fault : ZoneFault) (like : Option (List ℕ)) → EndsWithCode (named_zone_line text fault like)
ends_named_zone text zone.NoMemory like = memory
ends_named_zone text zone.BadZoneName like =
    longer (codes "agenda: zone '") _ (longer text _ (in_words (codes "': not the name of a zone ") code.BadZoneName))
ends_named_zone text zone.NoSuchZone like = ends_no_zone text like
ends_named_zone text zone.TooLarge like =
    longer (codes "agenda: zone '") _ (longer text _ (in_words (codes "': larger than 1048576 bytes ") code.TooLarge))
ends_named_zone text zone.BadZone like =
    longer (codes "agenda: zone '") _ (longer text _ (in_words (codes "': not a TZif file ") code.BadZone))

ends_number : (option : NumberOption) (number : ℕ) → EndsWithCode (number_line option number)
ends_number option number =
    longer (codes "agenda: ") _ (longer (number_name option) _ (longer (range_words option) _ (longer (decimal number) _
    (named_in_words (codes "' ") (number_code option) (number_has option)))))

ends_machine : (fault : MachineFault) → EndsWithCode (machine_line fault)
ends_machine (machine.Time option fault text) = ends_time option fault text
ends_machine (machine.Length text) =
    longer (codes "agenda: --least: not a length: '") _ (longer text _ (in_words (codes "' (such as '90min' or '2h') ") code.BadLength))
ends_machine (machine.Number option number) = ends_number option number
ends_machine (machine.Backwards since) =
    longer (codes "agenda: --until is before --since (") _ (longer since _ (in_words (codes ") ") code.Backwards))
ends_machine (machine.EmptySpan since) =
    longer (codes "agenda: --until is not after --since (") _ (longer since _ (in_words (codes ") ") code.EmptySpan))
ends_machine (machine.NothingExcepted pattern) =
    longer (codes "agenda: --except: nothing is named '") _ (longer pattern _ (in_words (codes "' ") code.NothingNamed))
ends_machine (machine.NothingChosen pattern) =
    longer (codes "agenda: --only: nothing is named '") _ (longer pattern _ (in_words (codes "' ") code.NothingNamed))
ends_machine (machine.Zone text fault like) = ends_named_zone text fault like
ends_machine machine.Clock = in_words (codes "agenda: the system clock is after 2999: set it ") code.OutOfYears

pub ends_failure : (sources : List SourcePath) (fault : Failure) → HasLine fault → EndsWithCode (fault_text sources fault)
ends_failure sources (failure.Usage text) has = absurd has
ends_failure sources (failure.Moment option fault) has = caused (about_option option) (moment_cause fault) (moment_has fault)
ends_failure sources (failure.Span fault) has = caused (codes "agenda: span: ") (span_cause fault) (span_has fault)
ends_failure sources (failure.Zone fault) has = ends_zone fault
ends_failure sources (failure.Run fault) has = ends_run sources fault has
ends_failure sources (failure.File path) has = longer (codes "agenda: ") _ (longer path _ (ends (codes ": ") code.Device))
ends_failure sources (failure.BadBaseline path line) has =
    longer (codes "agenda: ") _ (longer path _ (longer (codes ":") _ (longer (decimal line) _
    (in_words (codes ": not a line of agenda plan ") code.BadBaseline))))
ends_failure sources (failure.NotDirectory root) has = absurd has
ends_failure sources (failure.NoSystem root) has = absurd has
ends_failure sources (failure.TooManyUnits root) has = absurd has
ends_failure sources (failure.Machine fault) has = ends_machine fault
