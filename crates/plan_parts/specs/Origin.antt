-- Where each line of a merged text comes from.
use Rattle.std.specs.Prelude.{◌≡◌, ℕ, ◌+◌, ◌-◌, ◌==◌, ◌⊎◌, nat_le, if◌then◌else◌, List, [], ◌∷◌, length, get_or, codes, Option, Some, None}
use Rattle.std.specs.List.{slice_get}
use Rattle.plan_texts.specs.Lines.{lines}
use Rattle.plan_parts.specs.declared.origin.Origin.{Origin}

-- the line of a text with a number, from 1; None if there is no such line
abbrev pub line_at : List ℕ → ℕ → Option (List ℕ)
line_at text number = if number == 0 then None else slice_get (lines text) (number - 1)

-- the line at an origin
abbrev pub line_in : List (List ℕ) → Origin → Option (List ℕ)
line_in texts origin = line_at (get_or texts origin.part []) origin.line

-- an origin in the files after the first
abbrev pub after_one : Origin → Origin
after_one origin = record { part = origin.part + 1; line = origin.line }

-- the origin of a line with a number: in the first text if that has so many lines, or if no other text follows. Otherwise
-- it is in the texts that follow; the two lines before those come from the whole of the next text, line 0 (agenda)
abbrev pub origin_of : List (List ℕ) → ℕ → Origin
origin_of [] number = record { part = 0; line = number }
origin_of (text ∷ []) number = record { part = 0; line = number }
origin_of (text ∷ next ∷ more) number =
    if nat_le number (length (lines text))
    then record { part = 0; line = number }
    else after_one (origin_of (next ∷ more) (number - length (lines text) - 2))

-- a line that merging adds: an empty line, or `[Unit]`
abbrev pub IsAdded : Option (List ℕ) → Type 0
IsAdded line = (line ≡ Some []) ⊎ (line ≡ Some (codes "[Unit]"))
