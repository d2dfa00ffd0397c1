use Rattle.std.proofs.Common.{take}
use Rattle.agenda_table.specs.Rows.{job_rows}
use Rattle.agenda_table.proofs.jobs.JobRowsRows.put_rows.Given as goal

-- the sink took the head and the rows of the starts so far
abbrev pub invariant-loop-start : goal.invariant-loop-start
invariant-loop-start g l =
    g.K.RowSink.takes l.fn.sink l.sink (job_rows l.self.look.now l.self.delays (take l.start-index l.self.starts.now) l.self.jobs.now)
