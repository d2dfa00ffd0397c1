use Rattle.std.proofs.Common.{◌≡◌, ◌++◌, map}
use Rattle.std.specs.Vec.Iter.{into_iter_items}
use Rattle.agenda_sources.specs.Findings.{found_at}
use Rattle.agenda_sources.proofs.findings.add_all.Given as goal

-- what was added, with what is still to be added
abbrev pub invariant-loop-finding : goal.invariant-loop-finding
invariant-loop-finding l = l.found.items ++ map (found_at l.place) (into_iter_items l.finding-iterator)
    ≡ l.fn.found.items ++ map (found_at l.place) l.fn.more.items
