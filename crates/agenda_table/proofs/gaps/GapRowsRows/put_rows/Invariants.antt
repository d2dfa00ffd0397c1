use Rattle.std.proofs.Common.{take}
use Rattle.agenda_table.specs.Rows.{gap_rows}
use Rattle.agenda_table.proofs.gaps.GapRowsRows.put_rows.Given as goal

-- the sink took the head and the rows of the gaps so far
abbrev pub invariant-loop-from : goal.invariant-loop-from
invariant-loop-from g l =
    g.K.RowSink.takes l.fn.sink l.sink (gap_rows l.self.look.now (take l.from-index l.from-items))
