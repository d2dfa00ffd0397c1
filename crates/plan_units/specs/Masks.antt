-- Masks: what they cover is as if it weren't there (systemd.unit(5)).
use Rattle.std.specs.Prelude.{ℕ, Bool, true, false, ◌||◌, List}
use Rattle.std.specs.Str.{bytes_eq}
use Rattle.plan_tree.specs.declared.links.End.{End}
use Rattle.plan_tree.specs.declared.links.End.TheVariants.{Unknown, Nothing, Found}
use Rattle.plan_tree.specs.declared.tree.Node.{Node}
use Rattle.plan_tree.specs.declared.tree.Node.TheVariants.{File, Null}
use Rattle.plan_tree.specs.Links.{end_of, null_path}

abbrev pub is_mask_node : Node → Bool
is_mask_node (File is_empty) = is_empty
is_mask_node Null = true
is_mask_node _ = false

-- /dev/null may be missing in the tree (agenda)
abbrev pub is_mask_end : (List ℕ → Node) → End → Bool
is_mask_end node (Found path) = bytes_eq path null_path || is_mask_node (node path)
is_mask_end node Nothing = false
is_mask_end node Unknown = false

-- a mask is an empty file or /dev/null, or leads to one
abbrev pub is_mask : (List ℕ → Node) → List ℕ → Bool
is_mask node path = is_mask_end node (end_of node path)
