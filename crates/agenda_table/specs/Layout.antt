-- The lines of a table: cells with blanks between them (agenda).
use Rattle.std.specs.Prelude.{ℕ, ◌+◌, ◌-◌, ◌==◌, nat_le, max, Bool, false, if◌then◌else◌, List, [], ◌∷◌, ◌++◌, length, get_or, replicate, codes, IsTrue, Option, None, Some}
use Rattle.std.specs.List.{flat_map, list_all}
use Rattle.unicode_width.specs.Width.{str_width}
use Rattle.agenda_table.specs.Room.{kept, shown_bytes}
use Rattle.agenda_table.specs.declared.room.Room.TheVariants.{Left}

-- the columns of a terminal that the characters of a text take (UAX #11)
abbrev pub width : List ℕ → ℕ
width text = str_width false text

-- the width of the column at a place: that of its widest cell in these rows. A row is a list of cells, and a cell a list of
-- characters
unfoldable pub widest : List (List (List ℕ)) → (place : ℕ) → ℕ
widest [] place = 0
widest (row ∷ rows) place = max (width (get_or row place [])) (widest rows place)

-- the blanks after a cell: up to the width of its column, and two more; none after the last cell of a row
abbrev pub gap : (widths : ℕ → ℕ) → (last place : ℕ) → (cell : List ℕ) → ℕ
gap widths last place cell = if place == last then 0 else widths place - width cell + 2

-- the cells of a row from a place on, as a line
unfoldable pub joined : (widths : ℕ → ℕ) → (last place : ℕ) → List (List ℕ) → List ℕ
joined widths last place [] = []
joined widths last place (cell ∷ cells) =
    cell ++ (replicate (gap widths last place cell) 32 ++ joined widths last (place + 1) cells)

-- the columns that they take
unfoldable pub columns_from : (widths : ℕ → ℕ) → (last place : ℕ) → List (List ℕ) → ℕ
columns_from widths last place [] = 0
columns_from widths last place (cell ∷ cells) = width cell + (gap widths last place cell + columns_from widths last (place + 1) cells)

-- a line that is cut to so many columns: its first characters, as many as fit into one column less, and an ellipsis
abbrev pub cut : (columns : ℕ) → List ℕ → List ℕ
cut columns line = kept (Left (columns - 1)) line ++ 0x2026 ∷ []

-- a row as a line of so many columns, which is cut if it is longer; without a number of columns nothing is cut
abbrev pub fitted : (columns : Option ℕ) → (widths : ℕ → ℕ) → List (List ℕ) → List ℕ
fitted None widths row = joined widths (length row - 1) 0 row
fitted (Some columns) widths row =
    if nat_le (columns_from widths (length row - 1) 0 row) columns
    then joined widths (length row - 1) 0 row
    else cut columns (joined widths (length row - 1) 0 row)

-- a row as bytes, with the end of its line
abbrev pub line_text : (columns : Option ℕ) → (terminal : Bool) → (widths : ℕ → ℕ) → List (List ℕ) → List ℕ
line_text columns terminal widths row = shown_bytes terminal (fitted columns widths row) ++ codes "\n"

-- no row has more cells than there are columns
abbrev pub AreShort : List (List (List ℕ)) → Type 0
AreShort rows = IsTrue (list_all (λ row. nat_le (length row) 6) rows)

-- a table as bytes: its rows, the head first, and a last line, which isn't cut
abbrev pub table_text : (columns : Option ℕ) → (terminal : Bool) → List (List (List ℕ)) → (last : List ℕ) → List ℕ
table_text columns terminal rows last =
    flat_map (line_text columns terminal (widest rows)) rows ++ (shown_bytes terminal last ++ codes "\n")
