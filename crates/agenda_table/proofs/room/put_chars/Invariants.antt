use Rattle.std.proofs.Common.{◌≡◌}
use Rattle.plan_streams.specs.Writer.{Takes}
use Rattle.agenda_table.specs.Room.{kept, room_behind, shown_bytes}
use Rattle.agenda_table.proofs.room.put_chars.Given as goal

-- the writer took what there is room for of the characters so far
abbrev pub invariant-loop-c : goal.invariant-loop-c
invariant-loop-c g l =
    Takes g.S.Stream.holds g.S.Stream.takes_all l.initial.lines l.lines (shown_bytes l.terminal (kept l.initial.room l.yielded))
    × (l.room ≡ room_behind l.initial.room l.yielded)
