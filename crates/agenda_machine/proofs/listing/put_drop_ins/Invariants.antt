use Rattle.std.proofs.Common.{take}
use Rattle.plan_streams.specs.Writer.{Takes}
use Rattle.agenda_machine.specs.Listing.{drop_ins}
use Rattle.agenda_machine.proofs.listing.put_drop_ins.Given as goal

-- the writer took the lines so far
abbrev pub invariant-loop-part : goal.invariant-loop-part
invariant-loop-part g l =
    Takes g.S.Stream.holds g.S.Stream.takes_all l.initial.lines l.lines (drop_ins l.json l.root l.kind l.name (take l.part-index l.parts))
