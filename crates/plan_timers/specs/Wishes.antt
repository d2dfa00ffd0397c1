-- What enables a timer: the path that is reported if the timer is skipped (agenda).
use Rattle.std.specs.Prelude.{ℕ, Bool, not, ◌&&◌, if◌then◌else◌, List, [], ◌∷◌, Option, None, Some}
use Rattle.plan_timers.specs.declared.links.LinkDir.{LinkDir}
use Rattle.plan_timers.specs.declared.units.Units.{Units}
use Rattle.plan_timers.specs.Links.{first_link, or_path}
use Rattle.plan_tree.specs.Tree.{Held}
use Rattle.plan_units.specs.declared.paths.UnitDir.{UnitDir}
use Rattle.plan_units.specs.declared.unit.Unit.{Unit}
use Rattle.plan_units.specs.Masks.{is_mask}
use Rattle.plan_units.specs.Reach.{is_in}
use Rattle.plan_units.specs.Unit.{unit_of}
use Rattle.plan_units.specs.Wants.{set_by_unit}

-- what is known of the units: their directories, the directories of links, and the names that the boot reaches; and how many
-- bytes of a file are read
pub record KnownUnits : Type 0 where
  pub dirs : List UnitDir
  pub links : List LinkDir
  pub reached : List (List ℕ)
  pub most : ℕ

abbrev pub units_view : Units → KnownUnits
units_view units = record { dirs = units.dirs.now; links = units.links.now; reached = units.reached.now; most = units.most }

-- ---- by a setting

-- whether a unit wants a name by a setting such as `Wants=` (systemd.unit(5)); a masked unit wants nothing
abbrev pub is_set : Held → List UnitDir → Unit → List ℕ → Bool
is_set held dirs unit name = not (is_mask held.node unit.file.real) && is_in name (set_by_unit held dirs unit)

abbrev pub path_of_setting : Held → List UnitDir → Option Unit → List ℕ → Option (List ℕ)
path_of_setting held dirs None name = None
path_of_setting held dirs (Some unit) name = if is_set held dirs unit name then Some unit.file.path else None

-- the file of the first of these units that wants a name by a setting
abbrev pub first_setting : Held → List UnitDir → List (List ℕ) → List ℕ → Option (List ℕ)
first_setting held dirs [] name = None
first_setting held dirs (other ∷ more) name =
    or_path (path_of_setting held dirs (unit_of held.node dirs other) name) (first_setting held dirs more name)

-- ---- all

-- the first link of the name, or else its own file, or else the file that wants it by a setting; or else the name
abbrev pub wish_by : Option (List ℕ) → Option Unit → Option (List ℕ) → List ℕ → List ℕ
wish_by (Some link) unit setting name = link
wish_by None (Some unit) setting name = unit.file.path
wish_by None None (Some path) name = path
wish_by None None None name = name

abbrev pub wish_of : Held → KnownUnits → List ℕ → List ℕ
wish_of held units name =
    wish_by (first_link held.node units.links name) (unit_of held.node units.dirs name)
    (first_setting held units.dirs units.reached name) name
