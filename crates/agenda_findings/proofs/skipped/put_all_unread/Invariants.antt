use Rattle.std.proofs.Common.{take}
use Rattle.std.specs.List.{flat_map}
use Rattle.plan_streams.specs.Writer.{Takes}
use Rattle.agenda_findings.specs.Skipped.{unread_line}
use Rattle.agenda_findings.proofs.skipped.put_all_unread.Given as goal

-- the writer took the lines of all files so far
abbrev pub invariant-loop-source : goal.invariant-loop-source
invariant-loop-source g l =
    Takes g.S.Stream.holds g.S.Stream.takes_all l.initial.lines l.lines (flat_map unread_line (take l.source-index l.unread))
