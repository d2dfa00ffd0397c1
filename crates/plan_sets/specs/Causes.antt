-- The names of causes, as `Display` and error lines show them (agenda).
use Rattle.std.specs.Prelude.{ℕ, List, codes}
use Rattle.plan_sets.specs.declared.moment.MomentFault.{MomentFault}
use Rattle.plan_sets.specs.declared.moment.MomentFault.TheVariants as moment
use Rattle.plan_sets.specs.declared.item.SetFault.{SetFault}
use Rattle.plan_sets.specs.declared.item.SetFault.TheVariants as set

-- the name of what is wrong with the text of a timestamp
abbrev pub moment_cause : MomentFault → List ℕ
moment_cause moment.BadForm = codes "BadForm"
moment_cause moment.NoSuchDate = codes "NoSuchDate"
moment_cause moment.OutOfYears = codes "OutOfYears"

-- the name of what is wrong with a list of items
abbrev pub set_cause : SetFault → List ℕ
set_cause set.NoItem = codes "NoItem"
set_cause set.OutOfRange = codes "OutOfRange"
set_cause set.Backwards = codes "Backwards"
set_cause set.ZeroStep = codes "ZeroStep"
