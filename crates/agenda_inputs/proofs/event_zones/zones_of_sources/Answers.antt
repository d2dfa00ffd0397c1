use Rattle.agenda_faults.specs.declared.faults.Failure.TheVariants.{Run}
use Rattle.agenda_faults.specs.declared.faults.RunFault.TheVariants as run
use Rattle.agenda_sources.specs.ZoneNames.{zone_names}
use Rattle.agenda_inputs.specs.EventZones.{time_zones}
use Rattle.agenda_inputs.proofs.EventZonesLemmas.{files_if, files_none, no_memory_for_names, no_names, zones_if}
use Rattle.agenda_inputs.proofs.OpenedLemmas.{none_more, none_opened}
use Rattle.agenda_inputs.proofs.StepLemmas.{passed_on}
use Rattle.agenda_inputs.proofs.event_zones.zones_of_sources.Goals as goal

pub returns-in_err-names-clause-read : goal.returns-in_err-names-clause-read
returns-in_err-names-clause-read g c =
    passed_on (time_zones (g.F.Files.held c.args.files.now) c.args.request.now c.args.clock (zone_names c.args.sources.now)) _
    (Run run.NoMemory) (no_memory_for_names (g.F.Files.held c.args.files.now) c.args.request.now c.args.clock
    (zone_names c.args.sources.now))
    c.from_residual.ensures.1

pub returns-in_err-names-clause-first : goal.returns-in_err-names-clause-first
returns-in_err-names-clause-first g c = none_opened _ _

pub returns-then-request-clause-read : goal.returns-then-request-clause-read
returns-then-request-clause-read g c =
    zones_if (g.F.Files.held c.args.files.now) c.args.request.now c.args.clock (zone_names c.args.sources.now) _ c.if-request.true
    (rw c.in_ok-names.ensures at c.read_zones.ensures.read)

pub returns-then-request-clause-opens : goal.returns-then-request-clause-opens
returns-then-request-clause-opens g c =
    rw (files_if c.args.request.now (zone_names c.args.sources.now) c.if-request.true)
    (rw c.in_ok-names.ensures at c.read_zones.ensures.opens)

pub returns-then-request-clause-first : goal.returns-then-request-clause-first
returns-then-request-clause-first g c =
    rw (files_if c.args.request.now (zone_names c.args.sources.now) c.if-request.true)
    (rw c.in_ok-names.ensures at c.read_zones.ensures.first)

pub returns-clause-read : goal.returns-clause-read
returns-clause-read g c =
    rw c.in_utc.ensures (no_names (g.F.Files.held c.args.files.now) c.args.request.now c.args.clock (zone_names c.args.sources.now)
    c.if-request.false)

pub returns-clause-opens : goal.returns-clause-opens
returns-clause-opens g c = rw (files_none c.args.request.now (zone_names c.args.sources.now) c.if-request.false) (none_more _)
