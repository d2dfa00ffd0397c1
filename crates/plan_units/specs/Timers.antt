-- The timers that start with the machine.
use Rattle.std.specs.Prelude.{◌≡◌, ◌↔◌, ℕ, Bool, true, nat_eq, List, codes}
use Rattle.std.specs.List.{ends_with}
use Rattle.plan_tree.specs.Tree.{Held}
use Rattle.plan_units.specs.declared.paths.UnitDir.{UnitDir}
use Rattle.plan_units.specs.Reach.{IsEachOnce, Reaches, is_in}
use Rattle.plan_units.specs.Wants.{wants_of}

-- the name of the unit that the boot starts (systemd.special(7), default.target)
abbrev pub first_unit : List ℕ
first_unit = codes "default.target"

-- whether a name is that of a timer (systemd.unit(5))
abbrev pub is_timer : List ℕ → Bool
is_timer name = ends_with nat_eq name (codes ".timer")

-- these are the names of timers that are reached from the first unit, each once
abbrev pub AreTimers : Held → List UnitDir → List (List ℕ) → Type 0
AreTimers held dirs names =
    ((name : List ℕ) → (is_in name names ≡ true) ↔ (Reaches (wants_of held dirs) first_unit name × (is_timer name ≡ true)))
    × IsEachOnce names
