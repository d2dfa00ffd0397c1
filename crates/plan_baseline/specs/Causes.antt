-- The names of the errors of a text that is read back, as `Display` and error lines show them (agenda).
use Rattle.std.specs.Prelude.{ℕ, List, codes}
use Rattle.plan_baseline.specs.declared.fault.BaselineFault.{BaselineFault}
use Rattle.plan_baseline.specs.declared.fault.BaselineFault.TheVariants.{BadLine, NoMemory}

-- the name of each error
abbrev pub baseline_cause : BaselineFault → List ℕ
baseline_cause NoMemory = codes "NoMemory"
baseline_cause (BadLine number) = codes "BadLine"
