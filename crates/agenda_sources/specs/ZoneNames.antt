-- The names of the time zones that calendar events end with (systemd.time(7)).
use Rattle.std.specs.Prelude.{ℕ, List, []}
use Rattle.std.specs.List.{flat_map}
use Rattle.plan_grammar.specs.Event.{zone_name}
use Rattle.plan_rules.specs.Names.{with_found, with_names}
use Rattle.plan_rules.specs.TimerZones.{timer_zones}
use Rattle.plan_rules.specs.declared.source_kind.SourceKind.{SourceKind}
use Rattle.plan_rules.specs.declared.source_kind.SourceKind.TheVariants.{Timer}
use Rattle.agenda_sources.specs.declared.asked.Asked.{Asked}
use Rattle.agenda_sources.specs.declared.asked.Asked.TheVariants as asked
use Rattle.agenda_sources.specs.declared.sources.Source.{Source}

-- the names of the zones of a file's events, in order; crontabs have no events
abbrev pub file_zones : SourceKind → (bytes : List ℕ) → List (List ℕ)
file_zones Timer bytes = timer_zones bytes
file_zones other bytes = []

-- the same for a source
abbrev pub source_zones : Source → List (List ℕ)
source_zones source = file_zones source.kind source.bytes

-- the names of the zones of all sources, each once, in order
abbrev pub zone_names : List Source → List (List ℕ)
zone_names sources = with_names [] (flat_map source_zones sources)

-- the name of the zone of a rule that is given by itself, if it has one
abbrev pub asked_zones : Asked → List (List ℕ)
asked_zones (asked.Cron text) = []
asked_zones (asked.Event text) = with_found [] (zone_name text)
