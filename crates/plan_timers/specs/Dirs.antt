-- Directories of units and of drop-ins that can't be read whole.
use Rattle.std.specs.Prelude.{ℕ, Bool, true, false, not, ◌&&◌, nat_eq, if◌then◌else◌, List, [], ◌∷◌, ◌++◌, Option, None, Some, codes, option_and_then}
use Rattle.std.specs.List.{cons_option, ends_with}
use Rattle.plan_timers.specs.declared.reports.Skipped.{Skipped}
use Rattle.plan_timers.specs.declared.reports.Why.{Why}
use Rattle.plan_timers.specs.declared.reports.Why.TheVariants.{NotReadable, NotUtf8}
use Rattle.plan_timers.specs.Source.{TimerParts}
use Rattle.plan_tree.specs.declared.tree.Node.{Node}
use Rattle.plan_tree.specs.declared.tree.Node.TheVariants.{Unreadable}
use Rattle.plan_tree.specs.Place.{child}
use Rattle.plan_tree.specs.Tree.{Held}
use Rattle.plan_units.specs.declared.paths.UnitDir.{UnitDir}
use Rattle.plan_units.specs.Entries.{dir_in, names_at, read_dir}
use Rattle.plan_units.specs.Reach.{is_in}
use Rattle.plan_units.specs.UnitDirs.{names_of_dirs}
use Rattle.plan_units.specs.UnitNames.{stem}

-- ---- one directory

abbrev pub is_unreadable : Node → Bool
is_unreadable Unreadable = true
is_unreadable _ = false

-- the names in a directory can be looked at, as `.` is one of them (path_resolution(7))
abbrev pub can_search : (List ℕ → Node) → List ℕ → Bool
can_search node dir = not (is_unreadable (node (child dir (codes "."))))

-- a name that isn't UTF-8 isn't read (agenda)
abbrev pub fault_of_listing : Option (List (List ℕ) × Bool) → Option Why
fault_of_listing None = Some NotReadable
fault_of_listing (Some listing) = if listing.1 then None else Some NotUtf8

-- why a directory can't be read whole: it can't be searched or listed, or not all of its names are read
abbrev pub dir_fault : Held → List ℕ → Option Why
dir_fault held dir = if can_search held.node dir then fault_of_listing (held.names dir) else Some NotReadable

abbrev pub skipped_by : List ℕ → Option Why → Option Skipped
skipped_by path None = None
skipped_by path (Some why) = Some (record { path = path; why = why })

abbrev pub skipped_dir : Held → UnitDir → Option Skipped
skipped_dir held dir = skipped_by dir.path (dir_fault held dir.real)

-- ---- directories of units

abbrev pub skipped_dirs : Held → List UnitDir → List Skipped
skipped_dirs held [] = []
skipped_dirs held (dir ∷ more) = cons_option (skipped_dir held dir) (skipped_dirs held more)

-- ---- directories of drop-ins

abbrev pub names_drop_ins : List ℕ → Bool
names_drop_ins name = ends_with nat_eq name (codes ".d")

-- the names whose directories of drop-ins some timers read
abbrev pub names_of_sources : List TimerParts → List (List ℕ)
names_of_sources [] = []
names_of_sources (source ∷ more) = names_of_dirs source.unit ++ names_of_sources more

-- a name is that of a directory of drop-ins of one of these names
abbrev pub is_drop_in_dir : List (List ℕ) → List ℕ → Bool
is_drop_in_dir read name = names_drop_ins name && is_in (stem name) read

abbrev pub skipped_drop_in : Held → List (List ℕ) → UnitDir → List ℕ → Option Skipped
skipped_drop_in held read dir name =
    if is_drop_in_dir read name then option_and_then (skipped_dir held) (read_dir held.node (dir_in dir name)) else None

abbrev pub skipped_drop_ins : Held → List (List ℕ) → UnitDir → List (List ℕ) → List Skipped
skipped_drop_ins held read dir [] = []
skipped_drop_ins held read dir (name ∷ more) =
    cons_option (skipped_drop_in held read dir name) (skipped_drop_ins held read dir more)

abbrev pub skipped_in_dirs : Held → List (List ℕ) → List UnitDir → List Skipped
skipped_in_dirs held read [] = []
skipped_in_dirs held read (dir ∷ more) =
    skipped_drop_ins held read dir (names_at held dir.real) ++ skipped_in_dirs held read more

-- those directories of drop-ins of some timers that can't be read whole, in the order of the directories of units
abbrev pub skipped_drop_in_dirs : Held → List TimerParts → List UnitDir → List Skipped
skipped_drop_in_dirs held sources dirs = skipped_in_dirs held (names_of_sources sources) dirs
