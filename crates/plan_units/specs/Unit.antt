-- The unit of a name.
use Rattle.std.specs.Prelude.{ℕ, zero, suc, List, Option, None, Some}
use Rattle.plan_tree.specs.declared.tree.Node.{Node}
use Rattle.plan_units.specs.declared.file.UnitFile.{UnitFile}
use Rattle.plan_units.specs.declared.paths.UnitDir.{UnitDir}
use Rattle.plan_units.specs.declared.unit.Unit.{Unit}
use Rattle.plan_units.specs.UnitFile.{file_of_unit}
use Rattle.plan_units.specs.UnitNames.{named_for}

-- a file that is no alias is that of the name; `next` says which unit an alias is
abbrev pub unit_by_alias : (next : List ℕ → Option Unit) → List ℕ → UnitFile → Option (List ℕ) → Option Unit
unit_by_alias next name file None = Some (record { name = name; file = file })
unit_by_alias next name file (Some other) = next other

abbrev pub unit_by_file : (next : List ℕ → Option Unit) → List ℕ → Option UnitFile → Option Unit
unit_by_file next name None = None
unit_by_file next name (Some file) = unit_by_alias next name file file.alias

-- the unit of a name, if at most this number of names may be read
unfoldable pub unit_within : (List ℕ → Node) → List UnitDir → (names : ℕ) → List ℕ → Option Unit
unit_within node dirs zero name = None
unit_within node dirs (suc names) name =
    unit_by_file (λ other. unit_within node dirs names (named_for name other)) name (file_of_unit node dirs name)

-- the maximum number of names that are read, if one is an alias of the next (systemd 252)
abbrev pub most_names : ℕ
most_names = 8

-- the unit of a name: an alias is the unit that it names (systemd.unit(5))
abbrev pub unit_of : (List ℕ → Node) → List UnitDir → List ℕ → Option Unit
unit_of node dirs name = unit_within node dirs most_names name
