use Rattle.std.proofs.Common.{take}
use Rattle.plan_streams.specs.Writer.{Takes}
use Rattle.agenda_machine.specs.Listing.{sources_text}
use Rattle.agenda_machine.proofs.listing.put_sources.Given as goal

-- the writer took the lines of the sources so far
abbrev pub invariant-loop-source : goal.invariant-loop-source
invariant-loop-source g l =
    Takes g.S.Stream.holds g.S.Stream.takes_all l.initial.lines l.lines
    (sources_text l.json l.root (take l.source-index l.sources))
