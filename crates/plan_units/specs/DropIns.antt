-- The drop-ins of a unit, in the order in which they are read (systemd.unit(5)).
use Rattle.std.specs.Prelude.{ℕ, Bool, nat_eq, if◌then◌else◌, List, [], ◌∷◌, filter, codes}
use Rattle.std.specs.List.{ends_with}
use Rattle.plan_tree.specs.declared.tree.Node.{Node}
use Rattle.plan_tree.specs.Tree.{Held}
use Rattle.plan_units.specs.declared.merging.Entry.{Entry}
use Rattle.plan_units.specs.declared.paths.UnitDir.{UnitDir}
use Rattle.plan_units.specs.Entries.{entries_among}
use Rattle.plan_units.specs.Masks.{is_mask}
use Rattle.plan_units.specs.UnitDirs.{unit_dirs}

-- the names of drop-ins end with `.conf` (systemd.unit(5))
abbrev pub is_drop_in : Entry → Bool
is_drop_in entry = ends_with nat_eq entry.name (codes ".conf")

-- the drop-ins of a unit, in the order of their names, with masks (systemd.unit(5))
abbrev pub drop_in_entries : Held → List UnitDir → List ℕ → List Entry
drop_in_entries held dirs name = filter is_drop_in (entries_among held (unit_dirs dirs name (codes ".d")))

-- the entries that are read: all but masks (systemd.unit(5))
abbrev pub read_entries : (List ℕ → Node) → List Entry → List Entry
read_entries node [] = []
read_entries node (entry ∷ more) =
    if is_mask node entry.real then read_entries node more else entry ∷ read_entries node more

-- the drop-ins of a unit that are read, in the order of their names
abbrev pub drop_ins : Held → List UnitDir → List ℕ → List Entry
drop_ins held dirs name = read_entries held.node (drop_in_entries held dirs name)
