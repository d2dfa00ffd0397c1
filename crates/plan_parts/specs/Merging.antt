-- How files are merged into one text.
use Rattle.std.specs.Prelude.{ℕ, ◌-◌, Bool, true, ◌==◌, List, [], ◌∷◌, ◌++◌, length, codes}
use Rattle.std.specs.List.{slice_get}
use Rattle.std.specs.Option.{option_map_or}
use Rattle.std.specs.Str.{byte}
use Rattle.plan_texts.specs.Lines.{with_newline}

-- whether the last line of a text ends in a newline, or there is no line
abbrev pub ends_line : List ℕ → Bool
ends_line text = option_map_or (λ b. b == byte "\n") (slice_get text (length text - 1)) true

-- what is before each file but the first: an empty line and a line `[Unit]` (agenda)
abbrev pub between : List ℕ
between = codes "\n[Unit]\n"

-- the texts of the files after the first, as they are merged
abbrev pub added : List (List ℕ) → List ℕ
added [] = []
added (text ∷ more) = between ++ (with_newline text ++ added more)

-- the text that files are merged into; a last line without a newline gets one (agenda)
abbrev pub merged : List (List ℕ) → List ℕ
merged [] = []
merged (text ∷ more) = with_newline text ++ added more
