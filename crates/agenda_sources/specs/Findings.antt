-- The findings of all sources, in the order of the sources, and the jobs without what is rejected (agenda).
use Rattle.std.specs.Prelude.{ℕ, ◌+◌, Bool, not, List, [], ◌∷◌, ◌++◌, filter, map, Some}
use Rattle.plan_rules.specs.Job.{JobParts}
use Rattle.plan_check.specs.declared.finding.Finding.{Finding}
use Rattle.plan_check.specs.declared.TimerContext.{TimerContext}
use Rattle.plan_check.specs.Files.{File, after_file, file_findings, file_of}
use Rattle.plan_check.specs.Finding.{is_clean, is_warning}
use Rattle.plan_check.specs.Known.{KnownJobs, no_jobs}
use Rattle.agenda_sources.specs.declared.findings.Found.{Found}
use Rattle.agenda_sources.specs.declared.sources.Source.{Source}
use Rattle.agenda_sources.specs.declared.time_zones.TimeZones.{TimeZones}
use Rattle.agenda_sources.specs.Sources.{zoned}

-- a source as a file
abbrev pub source_file : Source → File
source_file source = file_of source.kind source.name source.bytes

-- a finding in the source at a place
abbrev pub found_at : (place : ℕ) → Finding → Found
found_at place finding = record { place = place; finding = finding }

-- the findings of sources in order. The first of them is at this place, after this is known
abbrev pub found_from : TimerContext → (place : ℕ) → KnownJobs → List Source → List Found
found_from context place known [] = []
found_from context place known (source ∷ more) =
    map (found_at place) (file_findings context known (source_file source))
    ++ found_from context (place + 1) (after_file context known (source_file source)) more

-- the findings of all sources, whose jobs start in these time zones
abbrev pub sources_findings : TimeZones → List Source → List Found
sources_findings zones sources = found_from zones.timers 0 (no_jobs (Some zones.clock)) sources

-- whether no finding is an error
abbrev pub is_all_clean : List Found → Bool
is_all_clean found = is_clean (map (λ one. one.finding) found)

-- ---- without what is rejected

-- the errors of all sources
abbrev pub sources_errors : TimeZones → List Source → List Found
sources_errors zones sources = filter (λ one. not (is_warning one.finding.kind)) (sources_findings zones sources)

-- what is known after sources
abbrev pub after_sources : TimerContext → KnownJobs → List Source → KnownJobs
after_sources context known [] = known
after_sources context known (source ∷ more) = after_sources context (after_file context known (source_file source)) more

-- the jobs of all sources of which nothing is rejected, in these time zones
abbrev pub kept_jobs : TimeZones → List Source → List JobParts
kept_jobs zones sources = zoned zones.clock (after_sources zones.timers (no_jobs (Some zones.clock)) sources).jobs
