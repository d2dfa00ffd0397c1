use Rattle.std.proofs.Common.{◌∷◌, codes, take}
use Rattle.std.specs.List.{flat_map}
use Rattle.plan_write.specs.Upcoming.{start_or_none}
use Rattle.agenda_table.specs.Rows.{distance_head, rows_of_start, start_cells}
use Rattle.agenda_table.proofs.starts.StartRowsRows.put_rows.Given as goal

-- the sink took the head and the rows of the starts so far
abbrev pub invariant-loop-start : goal.invariant-loop-start
invariant-loop-start g l =
    g.K.RowSink.takes l.fn.sink l.sink (start_cells (codes "START") (distance_head l.self.look.now.origin)
    ∷ flat_map (λ n. rows_of_start l.self.look.now (start_or_none n)) (take l.start-index l.self.starts.now))
