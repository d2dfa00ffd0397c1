-- No row of the table has more cells than a table may have.
use Rattle.std.proofs.Common.{List, [], ◌∷◌, refl}
use Rattle.std.specs.List.{flat_map}
use Rattle.agenda_table.specs.Layout.{AreShort}
use Rattle.agenda_table.specs.Rows.{LookParts}
use Rattle.agenda_changes.specs.Rows.{RunsChange, change_row, change_rows}

later_short : (look : LookParts) (rows : List RunsChange) → AreShort (flat_map (λ row. change_row look row ∷ []) rows)
later_short look [] = refl
later_short look (row ∷ rows) = later_short look rows

pub changes_short : (look : LookParts) (rows : List RunsChange) → AreShort (change_rows look rows)
changes_short look rows = later_short look rows
