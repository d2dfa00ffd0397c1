use Rattle.std.proofs.Common.{◌≡◌, true}
use Rattle.agenda_table.specs.Room.{is_printable}
use Rattle.agenda_table.proofs.room.is_printable.Given as goal

-- the characters so far are no control characters
abbrev pub invariant-loop-c : goal.invariant-loop-c
invariant-loop-c l = is_printable l.yielded ≡ true
