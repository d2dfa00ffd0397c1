use Rattle.std.proofs.Common.{◌≡◌, take}
use Rattle.agenda_table.specs.Scripts.{texts_of_jobs}
use Rattle.agenda_table.proofs.jobs.JobCells.with_files.Given as goal

-- what the rows of the jobs so far have of them
abbrev pub invariant-loop-number : goal.invariant-loop-number
invariant-loop-number l = l.cells.items ≡ texts_of_jobs l.files (take l.number l.jobs)
