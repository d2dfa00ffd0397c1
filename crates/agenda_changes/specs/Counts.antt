-- Counting starts by what they run.
use Rattle.std.specs.Prelude.{ℕ, ◌+◌, if◌then◌else◌, List, [], ◌∷◌, ◌++◌, map, position, Option, None, Some, slice_index, slice_set}
use Rattle.std.specs.List.{list_any}
use Rattle.std.specs.Str.{bytes_eq}
use Rattle.plan_baseline.specs.Line.{Line}
use Rattle.agenda_changes.specs.Rows.{count_of}

-- what starts run, with one more text at the end unless it is there
abbrev pub with_first : (firsts : List (List ℕ × ℕ)) → (runs : List ℕ) → (second : ℕ) → List (List ℕ × ℕ)
with_first firsts runs second =
    if list_any (λ first. bytes_eq runs first.0) firsts then firsts else firsts ++ (runs, second) ∷ []

-- the same with what a start runs, if there is one
abbrev pub with_line : (firsts : List (List ℕ × ℕ)) → Option Line → List (List ℕ × ℕ)
with_line firsts None = firsts
with_line firsts (Some line) = with_first firsts line.runs line.second

-- the number of the row of what is run, if it has one
abbrev pub row_of : (runs : List ℕ) → (firsts : List (List ℕ × ℕ)) → Option ℕ
row_of runs firsts = position (λ first. bytes_eq runs first.0) firsts

-- for each row, how many starts run what it has
abbrev pub counts_of : List Line → (firsts : List (List ℕ × ℕ)) → List ℕ
counts_of lines firsts = map (λ first. count_of first.0 lines) firsts

-- the counts with one more start in a row, if it has a row
abbrev pub counted : (counts : List ℕ) → (row : Option ℕ) → List ℕ
counted counts None = counts
counted counts (Some row) = slice_set counts row (slice_index counts row + 1)
