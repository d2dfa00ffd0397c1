-- The bytes of the file where a path leads.
use Rattle.std.specs.Prelude.{ℕ, List, Option, None}
use Rattle.plan_tree.specs.declared.links.End.{End}
use Rattle.plan_tree.specs.declared.links.End.TheVariants.{Unknown, Nothing, Found}
use Rattle.plan_tree.specs.declared.tree.Node.{Node}
use Rattle.plan_tree.specs.declared.tree.Node.TheVariants.{File}
use Rattle.plan_tree.specs.Links.{end_of}
use Rattle.plan_tree.specs.Tree.{Held}

-- only a regular file is read (agenda)
abbrev pub bytes_by : Node → Option (List ℕ) → Option (List ℕ)
bytes_by (File is_empty) bytes = bytes
bytes_by _ bytes = None

-- what is read at the end of a path
abbrev pub bytes_at : Held → End → Option (List ℕ)
bytes_at held (Found path) = bytes_by (held.node path) (held.bytes path)
bytes_at held Nothing = None
bytes_at held Unknown = None

-- the bytes of the regular file where a path leads; None if it leads to none, or to one that can't be read
abbrev pub contents_of : Held → List ℕ → Option (List ℕ)
contents_of held path = bytes_at held (end_of held.node path)
