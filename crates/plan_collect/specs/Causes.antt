-- The names of errors, as `Display` and error lines show them (agenda).
use Rattle.std.specs.Prelude.{ℕ, List, codes}
use Rattle.plan_collect.specs.declared.collector.CollectFault.{CollectFault}
use Rattle.plan_collect.specs.declared.collector.CollectFault.TheVariants as collect
use Rattle.plan_collect.specs.declared.collector.CollectorFault.{CollectorFault}
use Rattle.plan_collect.specs.declared.collector.CollectorFault.TheVariants as collector
use Rattle.plan_collect.specs.declared.plan_fault.PlanFault.{PlanFault}
use Rattle.plan_collect.specs.declared.plan_fault.PlanFault.TheVariants as plan

-- the names of a collector's errors
abbrev pub collect_cause : CollectFault → List ℕ
collect_cause collect.NoMemory = codes "NoMemory"
collect_cause collect.Stranger = codes "Stranger"
collect_cause collect.Gap = codes "Gap"
collect_cause collect.TooMany = codes "TooMany"
collect_cause collect.AfterLast = codes "AfterLast"
collect_cause collect.Missing = codes "Missing"

-- the names of the errors of a collector that can't be made
abbrev pub collector_cause : CollectorFault → List ℕ
collector_cause collector.NoMemory = codes "NoMemory"
collector_cause collector.BadLimit = codes "BadLimit"
collector_cause collector.BadSize = codes "BadSize"

-- the names of the errors of a plan
abbrev pub plan_cause : PlanFault → List ℕ
plan_cause plan.NoMemory = codes "NoMemory"
plan_cause plan.BadSize = codes "BadSize"
plan_cause (plan.Collect fault) = collect_cause fault
plan_cause (plan.NotSettled unsettled) = codes "NotSettled"
plan_cause plan.BadLimit = codes "BadLimit"
