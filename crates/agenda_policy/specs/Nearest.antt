-- The code that may be meant by a name that no code has (agenda).
use Rattle.std.specs.Prelude.{ℕ, nat_lt, nat_eq, if◌then◌else◌, List, fold, length}
use Rattle.std.specs.Str.{str_to_ascii_lowercase}
use Rattle.strsim.specs.Edits.{levenshtein_row}
use Rattle.agenda_codes.specs.declared.Code.{Code}
use Rattle.agenda_codes.specs.declared.Code.TheVariants.{Backwards}
use Rattle.agenda_codes.specs.Codes.{all_codes, name_of}

-- how many edits of a byte lead from one text to another: the distance of Levenshtein
abbrev pub edits : (one other : List ℕ) → ℕ
edits one other = levenshtein_row nat_eq one other (length other)

-- how many lead from a name to that of a code; upper and lower case are the same
unfoldable pub distance : (name : List ℕ) → Code → ℕ
distance name code = edits (str_to_ascii_lowercase name) (str_to_ascii_lowercase (name_of code))

-- the nearer of two codes; the first if both are as near
abbrev pub nearer : (name : List ℕ) → Code → Code → Code
nearer name one other = if nat_lt (distance name other) (distance name one) then other else one

-- the nearest of codes, the first of which is given by itself
abbrev pub nearest_of : (name : List ℕ) → (first : Code) → List Code → Code
nearest_of name first more = fold (nearer name) first more

-- the nearest of all codes
unfoldable pub nearest : (name : List ℕ) → Code
nearest name = nearest_of name Backwards all_codes
