-- The text of what a plan that keeps going skips (agenda).
use Rattle.std.specs.Prelude.{ℕ, false, List, ◌++◌, codes}
use Rattle.std.specs.List.{flat_map}
use Rattle.agenda_sources.specs.declared.Found.{Found}
use Rattle.agenda_sources.specs.declared.SourcePath.{SourcePath}
use Rattle.agenda_findings.specs.Findings.{check_text}

-- the line of a file that can't be read
abbrev pub unread_line : SourcePath → List ℕ
unread_line source = codes "agenda: " ++ (source.path ++ codes ": Device\n")

-- a line for each file that can't be read, in order, then the lines of the errors
abbrev pub skipped_text : (unread paths : List SourcePath) → (errors : List Found) → List ℕ
skipped_text unread paths errors = flat_map unread_line unread ++ check_text false paths errors
