-- Where paths lead.
use Rattle.std.specs.Prelude.{ℕ, Bool, true, false, List, [], ◌-◌, length, unwrap_or}
use Rattle.std.specs.List.{slice_get}
use Rattle.plan_tree.specs.declared.links.End.{End}
use Rattle.plan_tree.specs.declared.links.End.TheVariants.{Unknown, Nothing, Found}
use Rattle.plan_tree.specs.declared.tree.Node.{Node}
use Rattle.plan_tree.specs.declared.tree.Node.TheVariants.{File, Link}
use Rattle.plan_tree.specs.Links.{end_of}
use Rattle.plan_tree.specs.Place.{names_of}

-- where a path leads (path_resolution(7)). It has a name of its own, so that the prover doesn't follow paths that are known
unfoldable pub lead_of : (List ℕ → Node) → List ℕ → End
lead_of node path = end_of node path

abbrev pub is_file : Node → Bool
is_file (File is_empty) = true
is_file _ = false

abbrev pub is_link : Node → Bool
is_link (Link text) = true
is_link _ = false

-- a path leads to a regular file
abbrev pub is_file_at : (List ℕ → Node) → End → Bool
is_file_at node (Found path) = is_file (node path)
is_file_at node Nothing = false
is_file_at node Unknown = false

-- the last name of a path
abbrev pub name_of_path : List ℕ → List ℕ
name_of_path path = unwrap_or (slice_get (names_of path) (length (names_of path) - 1)) []
