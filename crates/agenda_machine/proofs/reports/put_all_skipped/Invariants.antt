use Rattle.std.proofs.Common.{take}
use Rattle.std.specs.List.{flat_map}
use Rattle.plan_streams.specs.Writer.{Takes}
use Rattle.agenda_machine.specs.Reports.{skipped_line}
use Rattle.agenda_machine.proofs.reports.put_all_skipped.Given as goal

-- the writer took the lines so far
abbrev pub invariant-loop-one : goal.invariant-loop-one
invariant-loop-one g l =
    Takes g.S.Stream.holds g.S.Stream.takes_all l.initial.lines l.lines (flat_map (skipped_line l.root) (take l.one-index l.skipped))
