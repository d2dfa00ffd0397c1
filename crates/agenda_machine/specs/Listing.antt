-- The text of the sources of a machine (agenda).
use Rattle.std.specs.Prelude.{ℕ, Bool, true, false, if◌then◌else◌, List, [], ◌∷◌, ◌++◌, codes, is_some}
use Rattle.std.specs.List.{flat_map}
use Rattle.plan_machine.specs.Source.{SourceParts}
use Rattle.plan_parts.specs.Files.{FileBytes}
use Rattle.plan_parts.specs.Parts.{files_of}
use Rattle.plan_rules.specs.declared.source_kind.SourceKind.{SourceKind}
use Rattle.plan_rules.specs.declared.source_kind.SourceKind.TheVariants.{Crontab, System, CronD, Spool, Timer}
use Rattle.plan_rules.specs.SourceKind.{option_of}
use Rattle.plan_rules.specs.Timer.{timer_user}
use Rattle.plan_write.specs.Json.{json_string}
use Rattle.plan_write.specs.Shown.{shown}
use Rattle.agenda_machine.specs.Paths.{below}

-- a line of text: the kind, the name and the path
abbrev pub part_line : (kind name path : List ℕ) → List ℕ
part_line kind name path = (kind ++ codes "\t") ++ ((name ++ codes "\t") ++ (shown path ++ codes "\n"))

-- an object in JSON
abbrev pub part_object : (kind name path : List ℕ) → List ℕ
part_object kind name path =
    codes "{\"kind\":"
    ++ (json_string kind
    ++ (codes ",\"name\":" ++ (json_string name ++ (codes ",\"path\":" ++ (json_string path ++ codes "}\n")))))

-- the line of a file of a source
abbrev pub part_text : (json : Bool) → (root kind name : List ℕ) → FileBytes → List ℕ
part_text true root kind name file = part_object kind name (below root file.path)
part_text false root kind name file = part_line kind name (below root file.path)

-- the lines of drop-ins, in order
abbrev pub drop_ins : (json : Bool) → (root kind name : List ℕ) → List FileBytes → List ℕ
drop_ins json root kind name files = flat_map (part_text json root kind name) files

-- a source of this kind and with this name is the timer of a user
abbrev pub is_timer_of_user : SourceKind → (name : List ℕ) → Bool
is_timer_of_user Timer name = is_some (timer_user name)
is_timer_of_user Crontab name = false
is_timer_of_user System name = false
is_timer_of_user CronD name = false
is_timer_of_user Spool name = false

abbrev pub is_of_user : SourceParts → Bool
is_of_user source = is_timer_of_user source.kind source.name

-- what the first file of a source is called, and what its drop-ins are called
abbrev pub kind_of : SourceParts → List ℕ
kind_of source = if is_of_user source then codes "user-timer" else option_of source.kind

abbrev pub drop_in_kind : SourceParts → List ℕ
drop_in_kind source = if is_of_user source then codes "user-drop-in" else codes "drop-in"

-- the lines of the files of a source: the first has the kind of the source, and the others are drop-ins
abbrev pub files_text : (json : Bool) → (root kind drop_in name : List ℕ) → List FileBytes → List ℕ
files_text json root kind drop_in name [] = []
files_text json root kind drop_in name (first ∷ more) = part_text json root kind name first ++ drop_ins json root drop_in name more

-- the lines of a source
abbrev pub source_text : (json : Bool) → (root : List ℕ) → SourceParts → List ℕ
source_text json root source = files_text json root (kind_of source) (drop_in_kind source) source.name (files_of source.parts)

-- the lines of all sources, in order
abbrev pub sources_text : (json : Bool) → (root : List ℕ) → List SourceParts → List ℕ
sources_text json root sources = flat_map (source_text json root) sources
