-- Timers that only units want that the boot doesn't start.
use Rattle.std.specs.Prelude.{ℕ, Bool, false, not, ◌&&◌, ◌==◌, if◌then◌else◌, List, [], ◌∷◌, ◌++◌, map, Option, None, Some}
use Rattle.std.specs.List.{list_any}
use Rattle.std.specs.Str.{byte, bytes_eq}
use Rattle.plan_timers.specs.declared.links.LinkDir.{LinkDir}
use Rattle.plan_timers.specs.declared.reports.Skipped.{Skipped}
use Rattle.plan_timers.specs.declared.reports.Why.TheVariants.{WantedBy}
use Rattle.plan_timers.specs.Counted.{counted_in}
use Rattle.plan_timers.specs.Wishes.{KnownUnits}
use Rattle.plan_tree.specs.declared.tree.Node.{Node}
use Rattle.plan_tree.specs.Place.{parent}
use Rattle.plan_tree.specs.Tree.{Held}
use Rattle.plan_units.specs.declared.merging.Entry.{Entry}
use Rattle.plan_units.specs.declared.unit.Unit.{Unit}
use Rattle.plan_units.specs.Reach.{is_in}
use Rattle.plan_units.specs.Timers.{is_timer}
use Rattle.plan_units.specs.Unit.{unit_of}
use Rattle.plan_units.specs.UnitFile.{last_name}
use Rattle.plan_units.specs.UnitNames.{stem}
use Rattle.plan_units.specs.Wants.{is_counted}

-- a name is that of a unit if it has a type; `TYPE.wants` is a directory of all units of a type (systemd.unit(5))
abbrev pub names_unit : List ℕ → Bool
names_unit name = list_any (λ b. b == byte ".") name

abbrev pub is_unreached : List ℕ → List (List ℕ) → Bool
is_unreached unit reached = names_unit unit && not (is_in unit reached)

-- ---- one entry

-- a name that is no alias has a file
abbrev pub has_own_file : List ℕ → Option Unit → Bool
has_own_file name None = false
has_own_file name (Some unit) = bytes_eq unit.name name

-- an entry is a link to a timer that has a file and isn't reached
abbrev pub is_unwanted : (List ℕ → Node) → KnownUnits → Entry → Bool
is_unwanted node units entry =
    (is_timer entry.name && not (is_in entry.name units.reached))
    && (is_counted node entry.real && has_own_file entry.name (unit_of node units.dirs entry.name))

-- the name of the unit in whose directory `UNIT.wants` or `UNIT.requires` a path is
abbrev pub unit_in : List ℕ → List ℕ
unit_in path = stem (last_name (parent path))

abbrev pub unwanted_at : List ℕ → Skipped
unwanted_at path = record { path = path; why = WantedBy (unit_in path) }

-- ---- all

abbrev pub is_named : List Entry → List ℕ → Bool
is_named found name = list_any (λ other. bytes_eq other.name name) found

-- an entry is such a link, and none of these links has its name
abbrev pub is_further : (List ℕ → Node) → KnownUnits → List Entry → Entry → Bool
is_further node units found entry = not (is_named found entry.name) && is_unwanted node units entry

-- links, and those among some entries that are of further names
abbrev pub with_entries : (List ℕ → Node) → KnownUnits → List Entry → List Entry → List Entry
with_entries node units found [] = found
with_entries node units found (entry ∷ more) =
    with_entries node units (if is_further node units found entry then found ++ entry ∷ [] else found) more

-- links, and those in a directory whose unit isn't reached
abbrev pub with_link : Held → KnownUnits → List Entry → LinkDir → List Entry
with_link held units found link =
    if is_unreached link.unit units.reached then with_entries held.node units found (counted_in held units.dirs link.dir) else found

abbrev pub with_links : Held → KnownUnits → List Entry → List LinkDir → List Entry
with_links held units found [] = found
with_links held units found (link ∷ more) = with_links held units (with_link held units found link) more

-- a timer is told once, by the first link of its name in the order of the directories (agenda)
abbrev pub unwanted_timers : Held → KnownUnits → List Skipped
unwanted_timers held units = map (λ entry. unwanted_at entry.path) (with_links held units [] units.links)
