use Rattle.std.proofs.Common.{◌≡◌, ◌++◌, drop}
use Rattle.plan_timers.specs.Dirs.{names_of_sources}
use Rattle.plan_timers.proofs.dirs.names_of_sources.Given as goal

abbrev pub invariant-loop-source : goal.invariant-loop-source
invariant-loop-source l =
    l.read.items ++ names_of_sources (drop l.source-index l.sources) ≡ names_of_sources l.sources
