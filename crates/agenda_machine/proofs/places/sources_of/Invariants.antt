use Rattle.std.proofs.Common.{◌≡◌, map, take}
use Rattle.agenda_machine.specs.Places.{source_of}
use Rattle.agenda_machine.proofs.places.sources_of.Given as goal

-- the list has the sources so far
abbrev pub invariant-loop-source : goal.invariant-loop-source
invariant-loop-source l = l.all.items ≡ map source_of (take l.source-index l.sources)
