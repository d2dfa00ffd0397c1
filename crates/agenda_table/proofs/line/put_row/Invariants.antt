use Rattle.std.proofs.Common.{◌≡◌, ◌++◌, ℕ, List, drop}
use Rattle.plan_streams.specs.Writer.{Takes}
use Rattle.agenda_table.specs.Layout.{joined}
use Rattle.agenda_table.specs.Room.{kept, room_behind, shown_bytes}
use Rattle.agenda_table.specs.Widths.{width_at}
use Rattle.agenda_table.proofs.line.put_row.Given as goal

-- the writer took what there is room for of the cells so far, and those from the place on are left
abbrev pub invariant-loop-place : goal.invariant-loop-place
invariant-loop-place g l =
    (done : List ℕ)
    × Takes g.S.Stream.holds g.S.Stream.takes_all l.initial.lines l.lines (shown_bytes l.terminal (kept l.initial.room done))
    × (l.room ≡ room_behind l.initial.room done)
    × (done ++ joined (width_at l.widths) l.last l.place (drop l.place l.row) ≡ joined (width_at l.widths) l.last 0 l.row)
