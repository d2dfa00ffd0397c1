-- The jobs of the sources of a plan, or the first error of the sources (agenda).
use Rattle.std.specs.Prelude.{ℕ, ◌+◌, List, [], ◌∷◌, Ok}
use Rattle.plan_clock.specs.declared.row.Change.{Change}
use Rattle.plan_texts.specs.Steps.{◌>>=◌}
use Rattle.plan_check.specs.declared.TimerContext.{TimerContext}
use Rattle.plan_rules.specs.Job.{JobParts}
use Rattle.plan_rules.specs.Zone.{jobs_in}
use Rattle.agenda_sources.specs.declared.time_zones.TimeZones.{TimeZones}
use Rattle.agenda_sources.specs.declared.sources.Source.{Source}
use Rattle.agenda_sources.specs.Faults.{SourceReading, in_source}
use Rattle.plan_check.specs.Deciding.{with_reading}
use Rattle.plan_check.specs.Files.{file_reading}

-- ---- one more source

-- these jobs, then those of the source at a place, from 0. Timers are read in this context
abbrev pub with_source : TimerContext → ℕ → List JobParts → Source → SourceReading (List JobParts)
with_source context place jobs source =
    in_source place (with_reading jobs (file_reading context source.kind source.name source.bytes))

-- ---- all sources

-- these jobs, then those of sources in order, the first of which is at this place. A source's jobs are added
-- before the next is read
abbrev pub sources_from : TimerContext → ℕ → List JobParts → List Source → SourceReading (List JobParts)
sources_from context place jobs [] = Ok jobs
sources_from context place jobs (source ∷ more) = do
  next ← with_source context place jobs source
  sources_from context (place + 1) next more

-- the jobs of all sources, in UTC
abbrev pub sources_reading : TimerContext → List Source → SourceReading (List JobParts)
sources_reading context sources = sources_from context 0 [] sources

-- jobs in the zone of a clock; in UTC they are unchanged
abbrev pub zoned : List Change → List JobParts → List JobParts
zoned [] jobs = jobs
zoned (first ∷ more) jobs = jobs_in (first ∷ more) jobs

-- the jobs of all sources, in these time zones
abbrev pub jobs_reading : TimeZones → List Source → SourceReading (List JobParts)
jobs_reading zones sources = do
  jobs ← sources_reading zones.timers sources
  Ok (zoned zones.clock jobs)
