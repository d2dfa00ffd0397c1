use Rattle.std.proofs.Common.{◌≡◌, ◌++◌, drop}
use Rattle.plan_check.specs.Known.{no_jobs}
use Rattle.agenda_sources.specs.Findings.{after_sources, found_from}
use Rattle.agenda_sources.proofs.findings.read_sources.Given as goal

-- what was found, and what is found from here on, are together what is found in all sources; so is what is known
abbrev pub invariant-loop-place : goal.invariant-loop-place
invariant-loop-place l = record {
  found : l.found.items ++ found_from l.context l.place l.known (drop l.place l.sources)
      ≡ found_from l.context 0 (no_jobs l.fn.clock) l.sources;
  known : after_sources l.context l.known (drop l.place l.sources) ≡ after_sources l.context (no_jobs l.fn.clock) l.sources;
}
