use Rattle.std.proofs.Common.{◌≡◌, replicate}
use Rattle.plan_streams.specs.Writer.{Takes}
use Rattle.agenda_table.specs.Room.{kept, room_behind, shown_bytes}
use Rattle.agenda_table.proofs.line.put_blanks.Given as goal

-- the writer took what there is room for of the blanks so far
abbrev pub invariant-loop-put : goal.invariant-loop-put
invariant-loop-put g l =
    Takes g.S.Stream.holds g.S.Stream.takes_all l.initial.lines l.lines
    (shown_bytes l.terminal (kept l.initial.room (replicate l._put 32)))
    × (l.room ≡ room_behind l.initial.room (replicate l._put 32))
