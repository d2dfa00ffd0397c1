use Rattle.std.proofs.Common.{take}
use Rattle.agenda_downtime.specs.Rows.{downtime_rows}
use Rattle.agenda_downtime.proofs.table.DowntimeTableRows.put_rows.Given as goal

-- the sink took the head and the rows of the jobs so far
abbrev pub invariant-loop-row : goal.invariant-loop-row
invariant-loop-row g l =
    g.K.RowSink.takes l.fn.sink l.sink (downtime_rows l.self.look.now (take l.row-index l.row-items))
