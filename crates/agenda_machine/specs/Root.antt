-- The root of a machine, by the directory that is given (agenda).
use Rattle.std.specs.Prelude.{ℕ, ◌==◌, not, ◌&&◌, if◌then◌else◌, List, [], ◌∷◌, length, codes}
use Rattle.std.specs.List.{list_all}
use Rattle.std.specs.Path.{slash}

-- the path of a directory without the slashes at its end, so that of the machine's root is empty
unfoldable pub root_of : List ℕ → List ℕ
root_of [] = []
root_of (first ∷ more) = if list_all (λ b. b == slash) (first ∷ more) then [] else first ∷ root_of more

-- the path of a directory as it is shown: without the slashes at its end, but that of `/`
abbrev pub dir_of : List ℕ → List ℕ
dir_of dir = if (length (root_of dir) == 0) && not (length dir == 0) then codes "/" else root_of dir
