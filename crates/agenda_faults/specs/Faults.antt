-- The errors of a command, and the exit status of each.
use Rattle.std.specs.Prelude.{ℕ}
use Rattle.plan_rules.specs.declared.RuleCause.{RuleCause}
use Rattle.plan_rules.specs.declared.RuleFault.{RuleFault}
use Rattle.plan_rules.specs.declared.RuleCause.TheVariants as cause
use Rattle.agenda_faults.specs.declared.faults.RunFault.{RunFault}
use Rattle.agenda_faults.specs.declared.faults.RunFault.TheVariants.{NoMemory, BadCount, Rule, InSource, SameName, Full, Plan, Script, Device, BadLeast, TooManyStarts}
use Rattle.agenda_faults.specs.declared.faults.Failure.{Failure}
use Rattle.agenda_faults.specs.declared.faults.Failure.TheVariants.{Usage, Moment, Span, Zone, Run, File, BadBaseline, NotDirectory, NoSystem, TooManyUnits, Machine}
use Rattle.agenda_faults.specs.declared.machine_faults.MachineFault.{MachineFault}
use Rattle.agenda_faults.specs.declared.machine_faults.MachineFault.TheVariants as machine
use Rattle.plan_rules.specs.declared.LineCause.{LineCause}
use Rattle.plan_rules.specs.declared.LineCause.TheVariants as line
use Rattle.plan_collect.specs.declared.CollectFault.{CollectFault}
use Rattle.plan_collect.specs.declared.CollectFault.TheVariants as collect
use Rattle.plan_collect.specs.declared.PlanFault.{PlanFault}
use Rattle.plan_collect.specs.declared.PlanFault.TheVariants as plan
use Rattle.agenda_sources.specs.declared.SourceFault.{SourceFault}
use Rattle.agenda_sources.specs.declared.SourceFault.TheVariants as source
use Rattle.plan_zones.specs.declared.zone_fault.ZoneFault.{ZoneFault}
use Rattle.plan_zones.specs.declared.zone_fault.ZoneFault.TheVariants as zone
use Rattle.agenda_script.specs.declared.fault.ScriptCause.{ScriptCause}
use Rattle.agenda_script.specs.declared.fault.ScriptCause.TheVariants as script
use Rattle.agenda_script.specs.declared.fault.ScriptFault.{ScriptFault}
use Rattle.agenda_faults.specs.Status.{failed_status, rejected_status, usage_status}

-- the error of a rule, by its cause
abbrev pub fault_by_cause : RuleCause → RuleFault → RunFault
fault_by_cause cause.NoMemory fault = NoMemory
fault_by_cause other fault = Rule fault

-- the error of a command whose rule is rejected: if the cause is NoMemory, so is the error (agenda)
abbrev pub fault_of_rule : RuleFault → RunFault
fault_of_rule fault = fault_by_cause fault.cause fault

-- the error of a script, by its cause
abbrev pub fault_by_script_cause : ScriptCause → ScriptFault → RunFault
fault_by_script_cause script.NoMemory fault = NoMemory
fault_by_script_cause other fault = Script fault

-- the error of a command whose script is rejected: if the cause is NoMemory, so is the error (agenda)
abbrev pub fault_of_script : ScriptFault → RunFault
fault_of_script fault = fault_by_script_cause fault.cause fault

-- the error of a command whose sources make no list of jobs (agenda)
abbrev pub fault_of_sources : SourceFault → RunFault
fault_of_sources source.NoMemory = NoMemory
fault_of_sources (source.InSource place fault) = InSource place fault
fault_of_sources (source.SameName name) = SameName name
fault_of_sources source.Full = Full

-- the error of a command whose jobs make no plan: running out of memory is always the same error (agenda)
abbrev pub fault_of_plan : PlanFault → RunFault
fault_of_plan plan.NoMemory = NoMemory
fault_of_plan fault = Plan fault

-- the failure of a zone that can't be used: running out of memory is always the same error (agenda)
abbrev pub failure_of_zone : ZoneFault → Failure
failure_of_zone zone.NoMemory = Run NoMemory
failure_of_zone fault = Zone fault

-- the status for a rule: NoMemory counts as a failed allocation (agenda)
abbrev pub rule_status : RuleCause → ℕ
rule_status cause.NoMemory = failed_status
rule_status other = rejected_status

-- the status for a script: NoMemory counts as a failed allocation (agenda)
abbrev pub script_status : ScriptCause → ℕ
script_status script.NoMemory = failed_status
script_status other = rejected_status

-- the status for a line: NoMemory counts as a failed allocation, also as the cause of its rule (agenda)
abbrev pub line_status : LineCause → ℕ
line_status line.NoMemory = failed_status
line_status (line.Rule fault) = rule_status fault.cause
line_status other = rejected_status

-- the status for a collector: NoMemory counts as a failed allocation (agenda)
abbrev pub collect_status : CollectFault → ℕ
collect_status collect.NoMemory = failed_status
collect_status other = rejected_status

-- the status for a plan: NoMemory counts as a failed allocation, also as the collector's error (agenda)
abbrev pub plan_status : PlanFault → ℕ
plan_status plan.NoMemory = failed_status
plan_status (plan.NotSettled unsettled) = failed_status
plan_status (plan.Collect fault) = collect_status fault
plan_status other = rejected_status

-- the status for a zone: NoMemory counts as a failed allocation (agenda)
abbrev pub zone_status : ZoneFault → ℕ
zone_status zone.NoMemory = failed_status
zone_status other = rejected_status

-- the status for a question about a machine that can't be answered (agenda)
abbrev pub machine_status : MachineFault → ℕ
machine_status (machine.Zone text fault like) = zone_status fault
machine_status other = rejected_status

-- the status for a command that was not done (agenda)
abbrev pub run_status : RunFault → ℕ
run_status NoMemory = failed_status
run_status BadCount = rejected_status
run_status (Rule fault) = rule_status fault.cause
run_status (InSource place fault) = line_status fault.cause
run_status (SameName name) = rejected_status
run_status Full = rejected_status
run_status (Plan fault) = plan_status fault
run_status (Script fault) = script_status fault.cause
run_status (Device fault) = failed_status
run_status BadLeast = rejected_status
run_status (TooManyStarts limit) = rejected_status

-- the exit status for a failure (agenda)
abbrev pub status_of : Failure → ℕ
status_of (Usage text) = usage_status
status_of (Moment option fault) = rejected_status
status_of (Span fault) = rejected_status
status_of (Zone fault) = zone_status fault
status_of (Run fault) = run_status fault
status_of (File path) = failed_status
status_of (BadBaseline path line) = rejected_status
status_of (NotDirectory root) = rejected_status
status_of (NoSystem root) = rejected_status
status_of (TooManyUnits root) = rejected_status
status_of (Machine fault) = machine_status fault
