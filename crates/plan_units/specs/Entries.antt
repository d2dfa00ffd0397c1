-- What several directories have together: of entries that have the same name, the first counts.
use Rattle.std.specs.Prelude.{ℕ, if◌then◌else◌, List, [], ◌∷◌, ◌++◌, Bool, insert, Option, None, Some}
use Rattle.std.specs.List.{list_any, prefix_len}
use Rattle.std.specs.Str.{bytes_eq}
use Rattle.plan_tree.specs.declared.tree.Node.{Node}
use Rattle.plan_tree.specs.declared.tree.Node.TheVariants.{Directory, Link}
use Rattle.plan_tree.specs.Entries.{entries_of}
use Rattle.plan_tree.specs.Links.{end_of}
use Rattle.plan_tree.specs.Order.{is_before}
use Rattle.plan_tree.specs.Place.{child}
use Rattle.plan_tree.specs.Tree.{Held}
use Rattle.plan_units.specs.declared.merging.Entry.{Entry}
use Rattle.plan_units.specs.declared.paths.UnitDir.{UnitDir}
use Rattle.plan_units.specs.SearchPath.{dir_by}

-- ---- one directory

-- the directory that is read in place of one: one that is a link is read where it leads, and keeps its path (systemd 252)
abbrev pub dir_by_node : (List ℕ → Node) → UnitDir → Node → Option UnitDir
dir_by_node node dir Directory = Some dir
dir_by_node node dir (Link text) = dir_by node dir.path (end_of node dir.real)
dir_by_node node dir _ = None

abbrev pub read_dir : (List ℕ → Node) → UnitDir → Option UnitDir
read_dir node dir = dir_by_node node dir (node dir.real)

abbrev pub names_in : Option (List (List ℕ) × Bool) → List (List ℕ)
names_in None = []
names_in (Some listing) = listing.0

-- the names in a directory that can be listed
abbrev pub names_at : Held → List ℕ → List (List ℕ)
names_at held dir = names_in (entries_of (held.names dir))

-- ---- several directories

-- entries in the order of their names, and one more, unless one has its name (systemd.unit(5))
abbrev pub with_entry : List Entry → Entry → List Entry
with_entry found entry =
    if list_any (λ other. bytes_eq other.name entry.name) found then found else
    insert found (prefix_len (λ other. is_before other.name entry.name) found) entry

-- entries, and those of more names in a directory
abbrev pub with_names : List Entry → UnitDir → List (List ℕ) → List Entry
with_names found dir [] = found
with_names found dir (name ∷ more) =
    with_names (with_entry found (record { path = child dir.path name; real = child dir.real name; name = name })) dir more

abbrev pub with_read : Held → List Entry → Option UnitDir → List Entry
with_read held found None = found
with_read held found (Some dir) = with_names found dir (names_at held dir.real)

-- entries, and those of more directories
abbrev pub with_dirs : Held → List Entry → List UnitDir → List Entry
with_dirs held found [] = found
with_dirs held found (dir ∷ more) = with_dirs held (with_read held found (read_dir held.node dir)) more

-- the entries of some directories
abbrev pub entries_among : Held → List UnitDir → List Entry
entries_among held dirs = with_dirs held [] dirs

-- ---- the directories of names

-- a directory in a directory of units
abbrev pub dir_in : UnitDir → List ℕ → UnitDir
dir_in dir name = record { path = child dir.path name; real = child dir.real name }

-- the directories of some names and a suffix in a directory of units
abbrev pub places_in : UnitDir → List (List ℕ) → List ℕ → List UnitDir
places_in dir [] suffix = []
places_in dir (name ∷ more) suffix = dir_in dir (name ++ suffix) ∷ places_in dir more suffix

-- the same in each directory of units, first to last
abbrev pub places_of : List UnitDir → List (List ℕ) → List ℕ → List UnitDir
places_of [] names suffix = []
places_of (dir ∷ more) names suffix = places_in dir names suffix ++ places_of more names suffix
