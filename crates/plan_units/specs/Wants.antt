-- Which units a unit wants (systemd.unit(5)).
use Rattle.std.specs.Prelude.{ℕ, Bool, true, false, not, ◌&&◌, if◌then◌else◌, List, [], ◌∷◌, ◌++◌, Option, None, Some, codes}
use Rattle.std.specs.List.{cons_option}
use Rattle.plan_tree.specs.declared.tree.Node.{Node}
use Rattle.plan_tree.specs.declared.tree.Node.TheVariants.{Link}
use Rattle.plan_tree.specs.Tree.{Held}
use Rattle.plan_units.specs.declared.merging.Entry.{Entry}
use Rattle.plan_units.specs.declared.paths.UnitDir.{UnitDir}
use Rattle.plan_units.specs.declared.unit.Unit.{Unit}
use Rattle.plan_units.specs.DropIns.{drop_ins}
use Rattle.plan_units.specs.Entries.{entries_among}
use Rattle.plan_units.specs.Masks.{is_mask}
use Rattle.plan_units.specs.Settings.{set_names}
use Rattle.plan_units.specs.Unit.{unit_of}
use Rattle.plan_units.specs.UnitDirs.{unit_dirs}
use Rattle.plan_units.specs.Validity.{wanted_unit}

-- ---- by links

abbrev pub is_link : Node → Bool
is_link (Link text) = true
is_link _ = false

-- what has a path counts if it is a link, wherever it leads, but to a mask (systemd.unit(5), on `.wants/`; systemd 252)
abbrev pub is_counted : (List ℕ → Node) → List ℕ → Bool
is_counted node path = is_link (node path) && not (is_mask node path)

-- the names of the entries that count, as they are meant for a unit; those that are invalid are ignored (systemd 252)
abbrev pub counted_names : (List ℕ → Node) → List ℕ → List Entry → List (List ℕ)
counted_names node unit [] = []
counted_names node unit (entry ∷ more) =
    if is_counted node entry.real
    then cons_option (wanted_unit unit entry.name) (counted_names node unit more)
    else counted_names node unit more

-- the names in the directories of a name with a suffix, as they are meant for its unit (systemd.unit(5); systemd 252)
abbrev pub linked_names : Held → List UnitDir → List ℕ → List ℕ → List ℕ → List (List ℕ)
linked_names held dirs name unit suffix =
    counted_names held.node unit (entries_among held (unit_dirs dirs name suffix))

-- ---- by settings

-- the names that some files of a unit write
abbrev pub set_in : Held → List ℕ → List Entry → List (List ℕ)
set_in held unit [] = []
set_in held unit (entry ∷ more) = set_names held unit entry.real ++ set_in held unit more

-- the names that a unit's file and its drop-ins write
abbrev pub set_by_unit : Held → List UnitDir → Unit → List (List ℕ)
set_by_unit held dirs unit = set_names held unit.name unit.file.real ++ set_in held unit.name (drop_ins held dirs unit.name)

-- ---- all

-- what the unit of a name wants: what is linked in the directories of the name, and what the files of the unit name. A
-- masked unit wants nothing
abbrev pub wants_of_unit : Held → List UnitDir → List ℕ → Unit → List (List ℕ)
wants_of_unit held dirs name unit =
    if is_mask held.node unit.file.real then [] else
    linked_names held dirs name unit.name (codes ".wants") ++ linked_names held dirs name unit.name (codes ".requires")
    ++ set_by_unit held dirs unit

-- what a name wants: the unit that it is, and what that wants. A name without a unit wants nothing
abbrev pub wants_by : Held → List UnitDir → List ℕ → Option Unit → List (List ℕ)
wants_by held dirs name None = []
wants_by held dirs name (Some unit) = unit.name ∷ wants_of_unit held dirs name unit

abbrev pub wants_of : Held → List UnitDir → List ℕ → List (List ℕ)
wants_of held dirs name = wants_by held dirs name (unit_of held.node dirs name)
