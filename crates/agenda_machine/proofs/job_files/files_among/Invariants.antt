use Rattle.std.proofs.Common.{◌≡◌, take}
use Rattle.agenda_machine.specs.JobFiles.{files_among}
use Rattle.agenda_machine.proofs.job_files.files_among.Given as goal

-- the files of the jobs so far
abbrev pub invariant-loop-number : goal.invariant-loop-number
invariant-loop-number l = l.files.items ≡ files_among l.root l.sources (take l.number l.jobs)
