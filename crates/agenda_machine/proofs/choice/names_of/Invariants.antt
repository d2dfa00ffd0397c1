use Rattle.std.proofs.Common.{◌≡◌, map, take}
use Rattle.agenda_machine.proofs.choice.names_of.Given as goal

-- the names of the jobs so far
abbrev pub invariant-loop-number : goal.invariant-loop-number
invariant-loop-number l = l.names.items ≡ map (λ job. job.name) (take l.number l.jobs)
