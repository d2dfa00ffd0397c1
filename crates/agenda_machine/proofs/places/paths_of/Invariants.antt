use Rattle.std.proofs.Common.{◌≡◌, take}
use Rattle.agenda_machine.specs.Places.{paths_of}
use Rattle.agenda_machine.proofs.places.paths_of.Given as goal

-- the list has the paths of the sources so far
abbrev pub invariant-loop-source : goal.invariant-loop-source
invariant-loop-source l = l.paths ≡ paths_of l.json l.root (take l.source-index l.sources)
