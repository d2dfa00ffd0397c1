use Rattle.std.proofs.Common.{◌≡◌, drop}
use Rattle.agenda_describe.specs.Jobs.{bytes_of_timer}
use Rattle.agenda_describe.proofs.jobs.bytes_of_timer.Given as goal

-- the timer is none of the sources so far
abbrev pub invariant-loop-source : goal.invariant-loop-source
invariant-loop-source l = bytes_of_timer (drop l.source-index l.sources) l.name ≡ bytes_of_timer l.sources l.name
