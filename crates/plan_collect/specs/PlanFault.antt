-- How a plan reports the errors of a collector (agenda).
use Rattle.plan_collect.specs.declared.collector.CollectFault.{CollectFault}
use Rattle.plan_collect.specs.declared.collector.CollectFault.TheVariants as collect
use Rattle.plan_collect.specs.declared.collector.CollectorFault.{CollectorFault}
use Rattle.plan_collect.specs.declared.collector.CollectorFault.TheVariants as collector
use Rattle.plan_collect.specs.declared.plan_fault.PlanFault.{PlanFault}
use Rattle.plan_collect.specs.declared.plan_fault.PlanFault.TheVariants.{NoMemory, BadSize, Collect, BadLimit}

-- the error of a plan if its collector can't be made
abbrev pub of_collector : CollectorFault → PlanFault
of_collector collector.NoMemory = NoMemory
of_collector collector.BadLimit = BadLimit
of_collector collector.BadSize = BadSize

-- the error of a plan if a message is rejected; out of memory is always NoMemory
abbrev pub of_collect : CollectFault → PlanFault
of_collect collect.NoMemory = NoMemory
of_collect fault = Collect fault
