use Rattle.std.proofs.Common.{◌≡◌, ◌++◌, drop, map, take}
use Rattle.agenda_machine.specs.Places.{located_at}
use Rattle.agenda_machine.proofs.places.located.Given as goal

-- the findings so far were moved, and the others are as they were
abbrev pub invariant-loop-one : goal.invariant-loop-one
invariant-loop-one l =
    l.one-items ≡ map (located_at l.sources) (take l.one-index l.initial.one-items) ++ drop l.one-index l.initial.one-items
