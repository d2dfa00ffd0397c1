-- Names, each once (agenda).
use Rattle.std.specs.Prelude.{ℕ, if◌then◌else◌, List, [], ◌∷◌, ◌++◌, Option, None, Some}
use Rattle.std.specs.List.{list_any}
use Rattle.std.specs.Str.{bytes_eq}

-- names with one more at the end, unless it is among them
abbrev pub with_name : List (List ℕ) → (name : List ℕ) → List (List ℕ)
with_name names name = if list_any (bytes_eq name) names then names else names ++ name ∷ []

-- the same if there is one more
abbrev pub with_found : List (List ℕ) → (name : Option (List ℕ)) → List (List ℕ)
with_found names None = names
with_found names (Some name) = with_name names name

-- the same for several names, one after the other
abbrev pub with_names : List (List ℕ) → (more : List (List ℕ)) → List (List ℕ)
with_names names [] = names
with_names names (name ∷ more) = with_names (with_name names name) more
