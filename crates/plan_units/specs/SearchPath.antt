-- The search path of units: the directories that have the units of the system, first to last.
use Rattle.std.specs.Prelude.{ℕ, Bool, if◌then◌else◌, List, [], ◌∷◌, ◌++◌, Option, None, Some, codes}
use Rattle.std.specs.List.{list_any}
use Rattle.std.specs.Str.{bytes_eq}
use Rattle.plan_tree.specs.declared.links.End.{End}
use Rattle.plan_tree.specs.declared.links.End.TheVariants.{Unknown, Nothing, Found}
use Rattle.plan_tree.specs.declared.tree.Node.{Node}
use Rattle.plan_tree.specs.declared.tree.Node.TheVariants.{Directory}
use Rattle.plan_tree.specs.Links.{end_of}
use Rattle.plan_units.specs.declared.paths.UnitDir.{UnitDir}

-- the paths of the directories (systemd.unit(5), unit file load path, of systemd 252)
abbrev pub unit_paths : List (List ℕ)
unit_paths =
    codes "etc/systemd/system.control" ∷ codes "run/systemd/system.control" ∷ codes "run/systemd/transient"
    ∷ codes "run/systemd/generator.early" ∷ codes "etc/systemd/system" ∷ codes "etc/systemd/system.attached"
    ∷ codes "run/systemd/system" ∷ codes "run/systemd/system.attached" ∷ codes "run/systemd/generator"
    ∷ codes "usr/local/lib/systemd/system" ∷ codes "lib/systemd/system" ∷ codes "usr/lib/systemd/system"
    ∷ codes "run/systemd/generator.late" ∷ []

-- directories are those of the system's units if one has such a path, and else those of a user's units (agenda)
abbrev pub is_of_system : List UnitDir → Bool
is_of_system dirs = list_any (λ dir. list_any (bytes_eq dir.path) unit_paths) dirs

-- a path that leads to a directory is one of the directories
abbrev pub dir_at : List ℕ → List ℕ → Node → Option UnitDir
dir_at path real Directory = Some (record { path = path; real = real })
dir_at path real _ = None

abbrev pub dir_by : (List ℕ → Node) → List ℕ → End → Option UnitDir
dir_by node path (Found real) = dir_at path real (node real)
dir_by node path Nothing = None
dir_by node path Unknown = None

-- a directory that is the same as an earlier one at the end of its links isn't read again (agenda)
abbrev pub with_dir : List UnitDir → Option UnitDir → List UnitDir
with_dir dirs None = dirs
with_dir dirs (Some dir) = if list_any (λ other. bytes_eq other.real dir.real) dirs then dirs else dirs ++ dir ∷ []

-- directories, and those of more paths
abbrev pub with_paths : (List ℕ → Node) → List UnitDir → List (List ℕ) → List UnitDir
with_paths node dirs [] = dirs
with_paths node dirs (path ∷ more) = with_paths node (with_dir dirs (dir_by node path (end_of node path))) more

-- the directories where some paths lead. It has a name of its own, so that the prover doesn't follow paths that are known
unfoldable pub dirs_at : (List ℕ → Node) → (paths : List (List ℕ)) → List UnitDir
dirs_at node paths = with_paths node [] paths

abbrev pub search_path : (List ℕ → Node) → List UnitDir
search_path node = with_paths node [] unit_paths
