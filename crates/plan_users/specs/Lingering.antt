-- Whether the manager of a user starts with the machine (loginctl(1), enable-linger).
use Rattle.std.specs.Prelude.{ℕ, Bool, true, false, List, codes}
use Rattle.plan_tree.specs.declared.links.End.{End}
use Rattle.plan_tree.specs.declared.links.End.TheVariants.{Unknown, Nothing, Found}
use Rattle.plan_tree.specs.declared.tree.Node.{Node}
use Rattle.plan_tree.specs.Links.{end_of}
use Rattle.plan_tree.specs.Place.{child}

abbrev pub is_found : End → Bool
is_found (Found path) = true
is_found Nothing = false
is_found Unknown = false

-- a path leads to something. It has a name of its own, so that the prover doesn't follow paths that are known
unfoldable pub exists : (List ℕ → Node) → (path : List ℕ) → Bool
exists node path = is_found (end_of node path)

-- a user lingers if var/lib/systemd/linger has the user's name (systemd 252)
abbrev pub lingers : (List ℕ → Node) → (name : List ℕ) → Bool
lingers node name = exists node (child (codes "var/lib/systemd/linger") name)
