use Rattle.std.proofs.Common.{◌≡◌, drop}
use Rattle.std.specs.List.{flat_map}
use Rattle.plan_rules.specs.Names.{with_names}
use Rattle.agenda_sources.specs.ZoneNames.{source_zones, zone_names}
use Rattle.agenda_sources.proofs.named_zones.zone_names.Given as goal

-- the names so far, with those of the remaining sources, are those of all sources
abbrev pub invariant-loop-source : goal.invariant-loop-source
invariant-loop-source l =
    with_names l.names (flat_map source_zones (drop l.source-index l.sources)) ≡ zone_names l.sources
