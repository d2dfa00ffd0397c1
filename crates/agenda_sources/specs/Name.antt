-- The name of a file, from its path (agenda).
use Rattle.std.specs.Prelude.{ℕ, ◌==◌, Bool, false, ◌||◌, if◌then◌else◌, List, [], ◌∷◌}
use Rattle.std.specs.Path.{slash}

-- whether a path has a `/`
unfoldable pub has_slash : List ℕ → Bool
has_slash [] = false
has_slash (byte ∷ path) = byte == slash || has_slash path

-- a file's name: its path after the last `/`
unfoldable pub file_name : List ℕ → List ℕ
file_name [] = []
file_name (byte ∷ path) = if has_slash (byte ∷ path) then file_name path else byte ∷ path
