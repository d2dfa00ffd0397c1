use Rattle.std.proofs.Common.{◌≡◌, take}
use Rattle.plan_write.specs.Scripts.{scripts_of_jobs}
use Rattle.plan_write.proofs.scripts.JobScripts.new.Given as goal

-- the scripts of the jobs so far
abbrev pub invariant-loop-number : goal.invariant-loop-number
invariant-loop-number l = l.scripts.items ≡ scripts_of_jobs l.files (take l.number l.jobs)
