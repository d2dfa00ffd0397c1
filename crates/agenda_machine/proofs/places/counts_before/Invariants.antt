use Rattle.std.proofs.Common.{◌≡◌, ◌++◌, drop}
use Rattle.agenda_machine.specs.Places.{counts_before}
use Rattle.agenda_machine.proofs.places.counts_before.Given as goal

-- the sources so far were counted
abbrev pub invariant-loop-source : goal.invariant-loop-source
invariant-loop-source l = l.counts.items ++ counts_before l.count (drop l.source-index l.sources) ≡ counts_before 0 l.sources
