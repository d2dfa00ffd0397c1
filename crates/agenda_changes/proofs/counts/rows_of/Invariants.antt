use Rattle.std.proofs.Common.{◌≡◌, map, take}
use Rattle.agenda_changes.specs.Counts.{row_of}
use Rattle.agenda_changes.proofs.counts.rows_of.Given as goal

-- the rows of the jobs so far
abbrev pub invariant-loop-number : goal.invariant-loop-number
invariant-loop-number l = l.rows.items ≡ map (λ texts. row_of texts.1 l.firsts) (take l.number l.jobs)
