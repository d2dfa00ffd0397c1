-- The last lines of tables (agenda).
use Rattle.std.specs.Prelude.{ℕ, ◌==◌, if◌then◌else◌, List, [], ◌++◌, codes, decimal}
use Rattle.agenda_table.specs.Rows.{LookParts, start_text}

-- the ending of the name of so many things
abbrev pub plural : (count : ℕ) → List ℕ
plural count = if count == 1 then [] else codes "s"

-- the last line of a table of a span
abbrev pub span_text : LookParts → (count : ℕ) → (what : List ℕ) → (since upto : ℕ) → (zone : List ℕ) → List ℕ
span_text look count what since upto zone =
    decimal count ++ (codes " " ++ (what ++ (plural count ++ (codes " from " ++ (start_text look since
    ++ (codes " to " ++ (start_text look upto ++ (codes ", " ++ zone))))))))

-- the last line of a table of what comes after a time
abbrev pub after_text : LookParts → (count : ℕ) → (what : List ℕ) → (after : ℕ) → (zone : List ℕ) → List ℕ
after_text look count what after zone =
    decimal count ++ (codes " " ++ (what ++ (plural count ++ (codes " after " ++ (start_text look after
    ++ (codes ", " ++ zone))))))
