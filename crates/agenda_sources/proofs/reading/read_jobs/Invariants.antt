use Rattle.std.proofs.Common.{◌≡◌, [], drop}
use Rattle.plan_check.specs.Deciding.{known_jobs}
use Rattle.agenda_sources.proofs.FoldLemmas.{strictly_from}
use Rattle.agenda_sources.proofs.reading.read_jobs.Given as goal

-- what is known so far, and the rest, mean what all sources mean
abbrev pub invariant-loop-place : goal.invariant-loop-place
invariant-loop-place l =
    strictly_from l.context l.place l.known (drop l.place l.sources) ≡ strictly_from l.context 0 (known_jobs []) l.sources
