use Rattle.std.proofs.Common.{take}
use Rattle.agenda_changes.specs.Rows.{change_rows}
use Rattle.agenda_changes.proofs.table.ChangeTableRows.put_rows.Given as goal

-- the sink took the head and the rows so far
abbrev pub invariant-loop-row : goal.invariant-loop-row
invariant-loop-row g l =
    g.K.RowSink.takes l.fn.sink l.sink (change_rows l.self.look.now (take l.row-index l.row-items))
