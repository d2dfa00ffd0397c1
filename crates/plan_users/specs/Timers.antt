-- The timers of the users of a machine (systemd.unit(5), loginctl(1)).
use Rattle.std.specs.Prelude.{◌≡◌, ℕ, Bool, true, false, ◌||◌, List, [], ◌∷◌, Any}
use Rattle.plan_timers.specs.Timers.{AreMachineTimers, FoundTimers}
use Rattle.plan_tree.specs.declared.tree.Node.{Node}
use Rattle.plan_tree.specs.Tree.{Held}
use Rattle.plan_units.specs.declared.paths.UnitDir.{UnitDir}
use Rattle.plan_units.specs.Reach.{AreTooMany}
use Rattle.plan_units.specs.Timers.{first_unit}
use Rattle.plan_units.specs.Wants.{wants_of}
use Rattle.plan_users.specs.declared.managers.Manager.{Manager}
use Rattle.plan_users.specs.Dirs.{has_dirs, user_dirs}
use Rattle.plan_users.specs.Found.{FoundUsers, found_for, joined, nothing}
use Rattle.plan_users.specs.Lingering.{lingers}
use Rattle.plan_users.specs.Managers.{managers_of}
use Rattle.plan_users.specs.UserTree.{held_for}

-- ---- one user

-- what is found for a user whose units are in these directories: the timers go by the rules of those of the machine, in the tree
-- that the user's manager reads
abbrev pub IsFoundIn : Held → List UnitDir → (most : ℕ) → Manager → FoundUsers → Type 0
IsFoundIn held dirs most manager found =
    (timers : FoundTimers) × AreMachineTimers held dirs false most timers × (found ≡ found_for held dirs manager timers)

-- only the timers of a user who lingers, or who has a directory of units at home, are looked for: of no other user there is
-- anything to report (agenda)
abbrev pub has_units : (List ℕ → Node) → Manager → Bool
has_units node manager = lingers node manager.user || has_dirs node manager.home

abbrev pub IsFoundBy : Held → (most : ℕ) → Manager → (has_units : Bool) → FoundUsers → Type 0
IsFoundBy held most manager true found = IsFoundIn (held_for manager held) (user_dirs held.node manager.home) most manager found
IsFoundBy held most manager false found = found ≡ nothing

abbrev pub IsFoundFor : Held → (most : ℕ) → Manager → FoundUsers → Type 0
IsFoundFor held most manager found = IsFoundBy held most manager (has_units held.node manager) found

-- ---- all users

-- what is found for users, one after the other, and before them
abbrev pub AreFoundAfter : Held → (most : ℕ) → List Manager → (before : FoundUsers) → FoundUsers → Type 0
AreFoundAfter held most [] before found = found ≡ before
AreFoundAfter held most (manager ∷ more) before found =
    (own : FoundUsers) × IsFoundFor held most manager own × AreFoundAfter held most more (joined before own) found

-- what is found of the timers of the users of a machine, in the order of the users
abbrev pub AreUserTimers : Held → (most : ℕ) → FoundUsers → Type 0
AreUserTimers held most found = AreFoundAfter held most (managers_of held) nothing found

-- ---- too many units

-- the manager of a user reaches too many units, if its timers are looked for
abbrev pub ReachesTooMany : Held → Manager → Type 0
ReachesTooMany held manager =
    (has_units held.node manager ≡ true) × AreTooMany (wants_of (held_for manager held) (user_dirs held.node manager.home)) first_unit

-- that of some user does
abbrev pub AreTooManyUserUnits : Held → Type 0
AreTooManyUserUnits held = Any (ReachesTooMany held) (managers_of held)
