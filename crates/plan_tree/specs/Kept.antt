-- What is kept of a tree.
use Rattle.std.specs.Prelude.{◌≡◌, ℕ, Bool, true, List, Option, None, Some, is_some}
use Rattle.std.specs.HashMap.{get_by_text}
use Rattle.std.specs.List.{list_any}
use Rattle.std.specs.Str.{bytes_eq}
use Rattle.plan_tree.specs.declared.kept.Kept.{Kept}
use Rattle.plan_tree.specs.declared.kept.KeptDir.{KeptDir}
use Rattle.plan_tree.specs.declared.tree.Listing.{Listing}
use Rattle.plan_tree.specs.declared.tree.Node.{Node}
use Rattle.plan_tree.specs.declared.tree.Node.TheVariants.{Missing}
use Rattle.plan_tree.specs.Complete.{IsName}
use Rattle.plan_tree.specs.Tree.{Held, listed, path_below}

-- what is kept at a path, if anything is
abbrev pub node_at : Kept → List ℕ → Option Node
node_at kept path = get_by_text kept.nodes path

abbrev pub has_node : Kept → List ℕ → Bool
has_node kept path = is_some (node_at kept path)

abbrev pub dir_at : Kept → List ℕ → Option KeptDir
dir_at kept path = get_by_text kept.dirs path

-- what is kept at paths is what a tree has there
abbrev pub AreNodes : Held → Kept → Type 0
AreNodes held kept = (path : List ℕ) (node : Node) → node_at kept path ≡ Some node → held.node path ≡ node

-- the names that are kept of directories are those of a tree
abbrev pub AreListings : Held → Kept → Type 0
AreListings held kept = (path : List ℕ) (dir : KeptDir) → dir_at kept path ≡ Some dir → held.names path ≡ Some (listed dir.listing)

-- in a directory that is kept as complete, what isn't kept is missing
abbrev pub AreComplete : Held → Kept → Type 0
AreComplete held kept =
    (path : List ℕ) (dir : KeptDir) (name : List ℕ) → dir_at kept path ≡ Some dir → dir.is_complete ≡ true → IsName name →
    node_at kept (path_below path name) ≡ None → held.node (path_below path name) ≡ Missing

-- all that is kept is so in a tree
abbrev pub IsKept : Held → Kept → Type 0
IsKept held kept = AreNodes held kept × AreListings held kept × AreComplete held kept

-- what is kept stays so in a tree, and at each path where something is kept something stays
abbrev pub Keeps : Held → (old new : Kept) → Type 0
Keeps held old new = (IsKept held old → IsKept held new) × ((path : List ℕ) → has_node old path ≡ true → has_node new path ≡ true)

-- what has one of some names in a directory is kept
abbrev pub HasNames : Kept → List ℕ → List (List ℕ) → Type 0
HasNames kept dir names = (name : List ℕ) → list_any (bytes_eq name) names ≡ true → has_node kept (path_below dir name) ≡ true

-- a listing is that of a directory of a tree, and what has its names is kept
abbrev pub IsListing : Held → Kept → List ℕ → Listing → Type 0
IsListing held kept dir listing = (held.names dir ≡ Some (listed listing)) × HasNames kept dir listing.names.items
