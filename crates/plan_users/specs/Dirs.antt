-- The search path of the units of a user (systemd.unit(5), user unit search path).
use Rattle.std.specs.Prelude.{ℕ, Bool, ◌||◌, List, [], ◌∷◌, codes, is_some}
use Rattle.plan_tree.specs.declared.tree.Node.{Node}
use Rattle.plan_tree.specs.Links.{end_of}
use Rattle.plan_tree.specs.Place.{child}
use Rattle.plan_units.specs.declared.paths.UnitDir.{UnitDir}
use Rattle.plan_units.specs.SearchPath.{dir_by, dirs_at}

-- ---- the paths

-- the two directories of units in a home directory; what the user's environment says of them isn't known (agenda)
abbrev pub config_dir : (home : List ℕ) → List ℕ
config_dir home = child home (codes ".config/systemd/user")

abbrev pub data_dir : (home : List ℕ) → List ℕ
data_dir home = child home (codes ".local/share/systemd/user")

-- the paths of the directories, first to last, by those two. Those in the user's runtime directory are left out: they are empty
-- before the manager starts (agenda)
abbrev pub paths_by : (config share : List ℕ) → List (List ℕ)
paths_by config share =
    config ∷ codes "etc/systemd/user" ∷ codes "run/systemd/user" ∷ share ∷ codes "usr/local/share/systemd/user"
    ∷ codes "usr/share/systemd/user" ∷ codes "usr/local/lib/systemd/user" ∷ codes "lib/systemd/user" ∷ codes "usr/lib/systemd/user" ∷ []

abbrev pub user_paths : (home : List ℕ) → List (List ℕ)
user_paths home = paths_by (config_dir home) (data_dir home)

-- ---- the directories

-- the directories of a user's units
abbrev pub user_dirs : (List ℕ → Node) → (home : List ℕ) → List UnitDir
user_dirs node home = dirs_at node (user_paths home)

-- a path leads to a directory
unfoldable pub is_dir : (List ℕ → Node) → (path : List ℕ) → Bool
is_dir node path = is_some (dir_by node path (end_of node path))

-- a home directory has a directory of units
abbrev pub has_dirs : (List ℕ → Node) → (home : List ℕ) → Bool
has_dirs node home = is_dir node (config_dir home) || is_dir node (data_dir home)
