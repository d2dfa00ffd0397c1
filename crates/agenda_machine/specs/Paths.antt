-- Paths below the root of a machine (agenda).
use Rattle.std.specs.Prelude.{ℕ, List, ◌++◌, codes}

-- the path that people see: that of the root, and the path on the machine
abbrev pub below : (root path : List ℕ) → List ℕ
below root path = root ++ (codes "/" ++ path)
