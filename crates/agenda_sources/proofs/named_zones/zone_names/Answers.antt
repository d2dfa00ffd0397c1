use Rattle.agenda_sources.proofs.ZoneNamesLemmas.{names_step}
use Rattle.agenda_sources.proofs.named_zones.zone_names.Goals as goal

pub loop-source-preserved : goal.loop-source-preserved
loop-source-preserved c =
    names_step _ _ c.as_slice-sources.result.now c.loop-source.source-index c.source-item.result _ c.loop-source-test.true
    c.source-item.is c.in_ok-add_source_zones.ensures.added c.loop-source.invariant
