-- The scripts that the jobs of a machine's crontabs run by run-parts, line by line (plan_runs).
use Rattle.std.specs.Prelude.{ℕ, if◌then◌else◌, List, [], ◌∷◌, Option, None, Some}
use Rattle.std.specs.Fmt.{decimal}
use Rattle.std.specs.Str.{bytes_eq}
use Rattle.agenda_machine.specs.Idle.{whose_crontab}
use Rattle.plan_machine.specs.Source.{SourceParts}
use Rattle.plan_parts.specs.Parts.{text_of}
use Rattle.plan_rules.specs.FileText.{text_reading}
use Rattle.plan_rules.specs.declared.Kind.{Kind}
use Rattle.plan_runs.specs.Scripts.{scripts_of_lines}
use Rattle.plan_runs.specs.declared.LineScripts.{LineScripts}
use Rattle.plan_tree.specs.Tree.{Held}

-- a source, and its lines that run scripts
pub record SourceScripts : Type 0 where
  pub source : SourceParts
  pub lines : List LineScripts

-- the lines of a crontab's text that run scripts; a timer has none
abbrev pub script_lines : Held → Option Kind → (owner text : List ℕ) → List LineScripts
script_lines held None owner text = []
script_lines held (Some kind) owner text = scripts_of_lines held kind owner (text_reading text)

abbrev pub with_scripts : Held → SourceParts → SourceScripts
with_scripts held source =
    record { source = source; lines = script_lines held (whose_crontab source.kind) source.name (text_of source.parts) }

-- the scripts of the line with this number in decimal, among the lines that run scripts
abbrev pub scripts_at : List LineScripts → (line : List ℕ) → List (List ℕ)
scripts_at [] line = []
scripts_at (one ∷ more) line = if bytes_eq (decimal one.line) line then one.scripts else scripts_at more line

-- the scripts of a job with this line; one without a line has none
abbrev pub scripts_of : List LineScripts → (line : Option (List ℕ)) → List (List ℕ)
scripts_of lines None = []
scripts_of lines (Some line) = scripts_at lines line
