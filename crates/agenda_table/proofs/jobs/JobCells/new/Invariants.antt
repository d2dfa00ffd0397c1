use Rattle.std.proofs.Common.{◌≡◌, map, take}
use Rattle.agenda_table.specs.Rows.{job_texts}
use Rattle.agenda_table.proofs.jobs.JobCells.new.Given as goal

-- what the rows of the jobs so far have of them
abbrev pub invariant-loop-number : goal.invariant-loop-number
invariant-loop-number l = l.cells.items ≡ map job_texts (take l.number l.jobs)
