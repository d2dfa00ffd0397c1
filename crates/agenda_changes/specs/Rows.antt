-- The rows of the table of changes: a row is a list of cells, and a cell a list of characters. The head is the first row (agenda).
use Rattle.std.specs.Prelude.{ℕ, not, List, [], ◌∷◌, chars, codes, count_by, decimal, filter, map}
use Rattle.std.specs.List.{filter_map, flat_map}
use Rattle.std.specs.Str.{bytes_eq}
use Rattle.std.specs.Str.Lossy.{utf8_lossy}
use Rattle.plan_baseline.specs.Line.{Line}
use Rattle.plan_changes.specs.Texts.{start_in}
use Rattle.plan_changes.specs.declared.Change.{Change}
use Rattle.agenda_table.specs.Rows.{LookParts, start_text}

-- ---- what the rows have

-- the starts that changed, in order: a removed one is of the earlier list, and an added one of the later list
abbrev pub changed_lines : (before now : List Line) → List Change → List Line
changed_lines before now changes = filter_map (λ change. start_in before now change.kind change.place) changes

-- what starts run, each once, in the order of their first starts, with the second of its first start
abbrev pub firsts : List Line → List (List ℕ × ℕ)
firsts [] = []
firsts (line ∷ lines) = (line.runs, line.second) ∷ filter (λ first. not (bytes_eq line.runs first.0)) (firsts lines)

-- how many starts run this
abbrev pub count_of : (runs : List ℕ) → List Line → ℕ
count_of runs lines = count_by (λ line. bytes_eq line.runs runs) lines

-- what a row has: what is run, how many starts of the earlier and of the later list run it, and the second of its first change
pub record RunsChange : Type 0 where
  pub runs : List ℕ
  pub before : ℕ
  pub after : ℕ
  pub first : ℕ

-- what the row has of what is run, which changed first at a second; what isn't UTF-8 in it is replaced
abbrev pub change_of : (before now : List Line) → (first : List ℕ × ℕ) → RunsChange
change_of before now first = record {
  runs = utf8_lossy first.0;
  before = count_of first.0 before;
  after = count_of first.0 now;
  first = first.1;
}

-- what the rows have: a row for each text that a changed start runs, in the order of first changes
abbrev pub runs_changes : (before now : List Line) → List Change → List RunsChange
runs_changes before now changes = map (change_of before now) (firsts (changed_lines before now changes))

-- the times in the rows: the first change of each
abbrev pub change_times : List RunsChange → List ℕ
change_times rows = map (λ row. row.first) rows

-- ---- the cells

-- the cells of these texts, in the columns of the table
abbrev pub change_cells : (runs before after first : List ℕ) → List (List ℕ)
change_cells runs before after first = chars runs ∷ chars before ∷ chars after ∷ chars first ∷ []

-- a row: what is run, how many starts of the earlier and of the later agenda run it, and the time of its first change
abbrev pub change_row : LookParts → RunsChange → List (List ℕ)
change_row look row = change_cells row.runs (decimal row.before) (decimal row.after) (start_text look row.first)

-- the rows of the table, the head first
abbrev pub change_rows : LookParts → List RunsChange → List (List (List ℕ))
change_rows look rows =
    change_cells (codes "RUNS") (codes "BEFORE") (codes "NOW") (codes "FIRST CHANGE")
    ∷ flat_map (λ row. change_row look row ∷ []) rows
