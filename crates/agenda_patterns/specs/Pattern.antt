-- Which names fit a pattern. Patterns and names are lists of bytes (agenda).
use Rattle.std.specs.Prelude.{ℕ, Bool, false, ◌&&◌, ◌||◌, ◌==◌, if◌then◌else◌, List, [], ◌∷◌, length}
use Rattle.std.specs.Str.{byte}

-- some end of a name passes a test: the whole name, the empty end, or one between
abbrev pub any_suffix : (List ℕ → Bool) → (name : List ℕ) → Bool
any_suffix test [] = test []
any_suffix test (b ∷ more) = test (b ∷ more) || any_suffix test more

-- a name begins with a byte that a byte of a pattern stands for, and the rest of the name passes a test
abbrev pub begins_then : ℕ → (List ℕ → Bool) → (name : List ℕ) → Bool
begins_then c test [] = false
begins_then c test (b ∷ more) = (c == byte "?" || c == b) && test more

-- a name fits a pattern: `*` stands for any bytes, or none, `?` for one byte, and each other byte for itself
abbrev pub fits : (pattern name : List ℕ) → Bool
fits [] name = length name == 0
fits (c ∷ pattern) name = if c == byte "*" then any_suffix (fits pattern) name else begins_then c (fits pattern) name
