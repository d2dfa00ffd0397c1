use Rattle.std.proofs.Common.{◌≡◌, drop}
use Rattle.agenda_machine.specs.JobFiles.{file_among}
use Rattle.agenda_machine.proofs.job_files.file_among.Given as goal

-- the job is none of the sources so far
abbrev pub invariant-loop-source : goal.invariant-loop-source
invariant-loop-source l = file_among l.root l.sources l.job ≡ file_among l.root (drop l.source-index l.sources) l.job
