-- Where a path leads, and the file there.
use Rattle.std.specs.Prelude.{ℕ, Bool, true, false, not, ◌||◌, if◌then◌else◌, List, take, Option, None}
use Rattle.std.specs.Option.{option_map}
use Rattle.std.specs.Str.{bytes_eq}
use Rattle.plan_tree.specs.declared.links.End.{End}
use Rattle.plan_tree.specs.declared.links.End.TheVariants.{Unknown, Nothing, Found}
use Rattle.plan_tree.specs.declared.tree.Node.{Node}
use Rattle.plan_tree.specs.declared.tree.Node.TheVariants.{File}
use Rattle.plan_tree.specs.Links.{end_of, null_path}
use Rattle.plan_tree.specs.Tree.{Held}
use Rattle.plan_parts.specs.Files.{FileBytes}

-- where a path leads (path_resolution(7)). It has a name of its own, so that the prover doesn't follow paths that are known
unfoldable pub lead_of : (List ℕ → Node) → List ℕ → End
lead_of node path = end_of node path

abbrev pub is_file : Node → Bool
is_file (File is_empty) = true
is_file _ = false

-- the first `most` bytes of a regular file that can be read. /dev/null is none, whatever the tree has there (agenda)
abbrev pub bytes_at : Held → (most : ℕ) → List ℕ → Option (List ℕ)
bytes_at held most real =
    if bytes_eq real null_path || not (is_file (held.node real)) then None else option_map (take most) (held.bytes real)

-- those of the file where a path leads
abbrev pub bytes_of_end : Held → (most : ℕ) → End → Option (List ℕ)
bytes_of_end held most (Found real) = bytes_at held most real
bytes_of_end held most Nothing = None
bytes_of_end held most Unknown = None

-- a file with this path, by its bytes if it can be read
abbrev pub read_file : Held → (most : ℕ) → List ℕ → List ℕ → Option FileBytes
read_file held most path real = option_map (λ bytes. record { path = path; bytes = bytes }) (bytes_at held most real)

-- the file where a path leads, with its first `most` bytes
abbrev pub file_at : Held → (most : ℕ) → List ℕ → End → Option FileBytes
file_at held most path (Found real) = read_file held most path real
file_at held most path Nothing = None
file_at held most path Unknown = None
