use Rattle.std.proofs.Common.{take}
use Rattle.agenda_describe.specs.Texts.{description_rows}
use Rattle.agenda_describe.proofs.table.DescriptionRowsRows.put_rows.Given as goal

-- the sink took the head and the rows of the jobs so far
abbrev pub invariant-loop-job : goal.invariant-loop-job
invariant-loop-job g l =
    g.K.RowSink.takes l.fn.sink l.sink (description_rows (take l.job-index l.job-items))
