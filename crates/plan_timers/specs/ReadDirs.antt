-- What is skipped of the directories of links that are read.
use Rattle.std.specs.Prelude.{ℕ, Bool, false, not, if◌then◌else◌, List, [], ◌∷◌, ◌++◌, Option, None, Some}
use Rattle.std.specs.List.{cons_option}
use Rattle.plan_timers.specs.declared.links.LinkDir.{LinkDir}
use Rattle.plan_timers.specs.declared.reports.Skipped.{Skipped}
use Rattle.plan_timers.specs.declared.reports.Why.{Why}
use Rattle.plan_timers.specs.declared.reports.Why.TheVariants.{BadName, Masked, NoLink}
use Rattle.plan_timers.specs.Counted.{counted_in}
use Rattle.plan_timers.specs.Dirs.{skipped_by, skipped_dir}
use Rattle.plan_tree.specs.declared.tree.Node.{Node}
use Rattle.plan_tree.specs.declared.tree.Node.TheVariants.{Directory, File, Link, Missing, Null, Other, Unreadable}
use Rattle.plan_tree.specs.Tree.{Held}
use Rattle.plan_units.specs.declared.merging.Entry.{Entry}
use Rattle.plan_units.specs.declared.paths.UnitDir.{UnitDir}
use Rattle.plan_units.specs.declared.unit.Unit.{Unit}
use Rattle.plan_units.specs.Masks.{is_mask}
use Rattle.plan_units.specs.Reach.{is_in}
use Rattle.plan_units.specs.Timers.{is_timer}
use Rattle.plan_units.specs.Unit.{unit_of}
use Rattle.plan_units.specs.UnitDirs.{names_of_dirs}
use Rattle.plan_units.specs.Validity.{is_valid_name}

-- ---- which are read

-- a unit that has a file and isn't masked reads its directories (systemd.unit(5))
abbrev pub is_reader_by : (List ℕ → Node) → Option Unit → Bool
is_reader_by node None = false
is_reader_by node (Some unit) = not (is_mask node unit.file.real)

abbrev pub is_reader : (List ℕ → Node) → List UnitDir → List ℕ → Bool
is_reader node dirs name = is_reader_by node (unit_of node dirs name)

-- the names whose directories are read: those of the units among these that read theirs
abbrev pub read_names : (List ℕ → Node) → List UnitDir → List (List ℕ) → List (List ℕ)
read_names node dirs [] = []
read_names node dirs (unit ∷ more) =
    if is_reader node dirs unit then names_of_dirs unit ++ read_names node dirs more else read_names node dirs more

-- ---- one entry

-- what is no mask enables a timer if it is a link (systemd.unit(5), on `.wants/`) with the name of a unit or of a template
-- (systemd 252); of what can't be looked at nothing is said
abbrev pub fault_by : List ℕ → Node → Option Why
fault_by name (File is_empty) = Some NoLink
fault_by name Directory = Some NoLink
fault_by name Null = Some NoLink
fault_by name Other = Some NoLink
fault_by name (Link text) = if is_valid_name name then None else Some BadName
fault_by name Missing = None
fault_by name Unreadable = None

-- why an entry with the name of a timer enables none
abbrev pub entry_fault : (List ℕ → Node) → Entry → Option Why
entry_fault node entry =
    if not (is_timer entry.name) then None else
    if is_mask node entry.real then Some Masked else fault_by entry.name (node entry.real)

abbrev pub skipped_entries : (List ℕ → Node) → List Entry → List Skipped
skipped_entries node [] = []
skipped_entries node (entry ∷ more) = cons_option (skipped_by entry.path (entry_fault node entry)) (skipped_entries node more)

-- ---- all

-- what is skipped of a directory, if it is one of these names
abbrev pub skipped_of_link : Held → List UnitDir → List (List ℕ) → LinkDir → List Skipped
skipped_of_link held dirs names link =
    if is_in link.unit names
    then cons_option (skipped_dir held link.dir) [] ++ skipped_entries held.node (counted_in held dirs link.dir)
    else []

abbrev pub skipped_of_links : Held → List UnitDir → List (List ℕ) → List LinkDir → List Skipped
skipped_of_links held dirs names [] = []
skipped_of_links held dirs names (link ∷ more) = skipped_of_link held dirs names link ++ skipped_of_links held dirs names more

-- what is skipped of the directories of links that are read, in their order (agenda)
abbrev pub skipped_links : Held → List UnitDir → List (List ℕ) → List LinkDir → List Skipped
skipped_links held dirs reached links = skipped_of_links held dirs (read_names held.node dirs reached) links
