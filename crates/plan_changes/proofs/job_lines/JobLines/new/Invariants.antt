use Rattle.std.proofs.Common.{◌≡◌, map, take}
use Rattle.plan_changes.specs.Lines.{job_texts}
use Rattle.plan_changes.proofs.job_lines.JobLines.new.Given as goal

-- the texts of the jobs so far
abbrev pub invariant-loop-number : goal.invariant-loop-number
invariant-loop-number l = l.texts.items ≡ map job_texts (take l.number l.jobs)
