use Rattle.std.proofs.Common.{◌≡◌, map, take}
use Rattle.agenda_describe.specs.Jobs.{described}
use Rattle.agenda_describe.proofs.jobs.Descriptions.new.Given as goal

-- the jobs so far are described
abbrev pub invariant-loop-number : goal.invariant-loop-number
invariant-loop-number l = l.found.items ≡ map (described l.zones l.sources) (take l.number l.jobs)
