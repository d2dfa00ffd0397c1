-- No row of the table has more cells than a table may have.
use Rattle.std.proofs.Common.{List, [], ◌∷◌, refl}
use Rattle.std.specs.List.{flat_map}
use Rattle.agenda_table.specs.Layout.{AreShort}
use Rattle.agenda_table.specs.Rows.{LookParts}
use Rattle.agenda_downtime.specs.Rows.{MissedTexts, downtime_row, downtime_rows}

later_short : (look : LookParts) (rows : List MissedTexts) → AreShort (flat_map (λ row. downtime_row look row ∷ []) rows)
later_short look [] = refl
later_short look (row ∷ rows) = later_short look rows

pub missed_short : (look : LookParts) (rows : List MissedTexts) → AreShort (downtime_rows look rows)
missed_short look rows = later_short look rows
