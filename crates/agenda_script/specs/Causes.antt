-- The names of causes, as `Display` and error lines show them (agenda).
use Rattle.std.specs.Prelude.{ℕ, List, codes}
use Rattle.agenda_script.specs.declared.fault.ScriptCause.{ScriptCause}
use Rattle.agenda_script.specs.declared.fault.ScriptCause.TheVariants as script

-- the name of a script's cause
abbrev pub script_cause : ScriptCause → List ℕ
script_cause script.NoMemory = codes "NoMemory"
script_cause script.NotUtf8 = codes "NotUtf8"
script_cause script.TooLarge = codes "TooLarge"
script_cause script.BadLine = codes "BadLine"
script_cause script.BadSize = codes "BadSize"
script_cause script.TooManySteps = codes "TooManySteps"
