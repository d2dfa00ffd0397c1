use Rattle.std.proofs.Common.{◌≡◌, ◌++◌, string_bytes}
use Rattle.plan_timers.specs.Names.{job_of}
use Rattle.plan_timers.proofs.names.job_name.Given as goal

abbrev pub invariant-loop-letter : goal.invariant-loop-letter
invariant-loop-letter l = string_bytes l.job ++ job_of l.letter-iterator.rest.now ≡ job_of l.name
