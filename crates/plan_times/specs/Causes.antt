-- The names of causes, as `Display` and error lines show them (agenda).
use Rattle.std.specs.Prelude.{ℕ, List, codes}
use Rattle.plan_times.specs.declared.fault.TimeFault.{TimeFault}
use Rattle.plan_times.specs.declared.fault.TimeFault.TheVariants.{BadTime, OutOfYears}

-- the name of what is wrong with the text of a time
abbrev pub time_cause : TimeFault → List ℕ
time_cause BadTime = codes "BadTime"
time_cause OutOfYears = codes "OutOfYears"
