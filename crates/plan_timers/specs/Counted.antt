-- The entries of a directory of links that count (systemd.unit(5)).
use Rattle.std.specs.Prelude.{ℕ, Bool, List, [], ◌∷◌, filter}
use Rattle.std.specs.Str.{bytes_eq}
use Rattle.plan_tree.specs.Place.{child}
use Rattle.plan_tree.specs.Tree.{Held}
use Rattle.plan_units.specs.declared.merging.Entry.{Entry}
use Rattle.plan_units.specs.declared.paths.UnitDir.{UnitDir}
use Rattle.plan_units.specs.Entries.{dir_in, entries_among}
use Rattle.plan_units.specs.UnitFile.{last_name}

-- the directories of a name in the directories of units
abbrev pub dirs_named : List UnitDir → List ℕ → List UnitDir
dirs_named [] name = []
dirs_named (dir ∷ more) name = dir_in dir name ∷ dirs_named more name

-- an entry is in a directory
abbrev pub is_at : UnitDir → Entry → Bool
is_at dir entry = bytes_eq (child dir.path entry.name) entry.path

-- the entries in a directory that count: of those that have one name in directories of one name, the first does, whatever it is
-- (systemd.unit(5))
abbrev pub counted_in : Held → List UnitDir → UnitDir → List Entry
counted_in held dirs dir = filter (is_at dir) (entries_among held (dirs_named dirs (last_name dir.path)))
