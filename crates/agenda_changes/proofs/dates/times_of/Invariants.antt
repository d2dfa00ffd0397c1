use Rattle.std.proofs.Common.{◌≡◌, ◌∷◌, take}
use Rattle.agenda_table.specs.Dates.{AreInYears}
use Rattle.agenda_changes.specs.Rows.{change_times}
use Rattle.agenda_changes.proofs.dates.times_of.Given as goal

-- the times are those of the rows so far, after the end of the span
abbrev pub invariant-loop-row : goal.invariant-loop-row
invariant-loop-row l = (l.times.items ≡ l.upto ∷ change_times (take l.row-index l.rows)) × AreInYears l.times.items
