use Rattle.std.proofs.Common.{◌≡◌, ◌+◌, ℕ, drop}
use Rattle.agenda_table.specs.Layout.{columns_from}
use Rattle.agenda_table.specs.Widths.{width_at}
use Rattle.agenda_table.proofs.line.fits.Given as goal

-- the cells so far take the columns that aren't left
abbrev pub invariant-loop-place : goal.invariant-loop-place
invariant-loop-place l =
    (used : ℕ)
    × (used + l.left ≡ l.columns)
    × (used + columns_from (width_at l.widths) l.last l.place (drop l.place l.row) ≡ columns_from (width_at l.widths) l.last 0 l.row)
