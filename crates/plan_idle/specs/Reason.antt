-- Why a command is idle, in words: the last thing that it looks at (agenda).
use Rattle.std.specs.Prelude.{ℕ, Bool, true, false, if◌then◌else◌, List, ◌++◌, codes, Option, Some, None}
use Rattle.plan_shell.specs.declared.step.Property.{Property}
use Rattle.plan_shell.specs.declared.step.Property.TheVariants as property
use Rattle.plan_shell.specs.Tree.{Shell}
use Rattle.plan_idle.specs.declared.outcomes.Outcomes.{Outcomes}
use Rattle.plan_idle.specs.declared.outcomes.Seen.{Seen}
use Rattle.plan_idle.specs.Outcomes.{outcomes}
use Rattle.plan_idle.specs.Run.{Looks}

-- what comes before a path or a name
abbrev pub words_before : Property → List ℕ
words_before property.Command = codes "command "
words_before _ = codes ""

-- what comes after it, by whether the property holds
abbrev pub words_after : Property → (holds : Bool) → List ℕ
words_after property.Exists true = codes " exists"
words_after property.Exists false = codes " does not exist"
words_after property.File true = codes " is a file"
words_after property.File false = codes " is no file"
words_after property.Directory true = codes " is a directory"
words_after property.Directory false = codes " is no directory"
words_after property.NotEmpty true = codes " is not empty"
words_after property.NotEmpty false = codes " is empty or missing"
words_after property.Executable true = codes " is executable"
words_after property.Executable false = codes " is not executable"
words_after property.Command true = codes " exists"
words_after property.Command false = codes " not found"
words_after property.NoScripts true = codes " has no scripts"
words_after property.NoScripts false = codes " has scripts"

abbrev pub reason_text : Option Seen → List ℕ
reason_text None = codes "it runs nothing"
reason_text (Some seen) = words_before seen.property ++ seen.subject ++ words_after seen.property seen.holds

-- why a command with these outcomes is idle, if it is
abbrev pub reason_by : Outcomes → Option (List ℕ)
reason_by outcomes = if outcomes.may_act then None else Some (reason_text outcomes.last)

abbrev pub reason_of : Looks → Shell → Option (List ℕ)
reason_of looks tree = reason_by (outcomes looks tree)
