-- The crontabs of a machine that the program which reads them ignores, for what their texts don't say.
use Rattle.std.specs.Prelude.{ℕ, Bool, List, [], ◌∷◌, Option, None, Some}
use Rattle.std.specs.List.{filter_map, slice_get}
use Rattle.plan_machine.specs.Daemon.{lacks_cron_daemon}
use Rattle.plan_machine.specs.Source.{SourceParts}
use Rattle.plan_owners.specs.declared.crontabs.Ignored.{Ignored}
use Rattle.plan_owners.specs.declared.daemon.CronDaemon.{CronDaemon}
use Rattle.plan_owners.specs.Crontabs.{file_why}
use Rattle.plan_owners.specs.Daemon.{KnownDaemon, daemon_of}
use Rattle.plan_parts.specs.Files.{FileBytes}
use Rattle.plan_parts.specs.Parts.{files_of}
use Rattle.plan_rules.specs.declared.source_kind.SourceKind.{SourceKind}
use Rattle.plan_timers.specs.declared.reports.NotPlanned.{NotPlanned}
use Rattle.plan_timers.specs.declared.reports.Unplanned.{Unplanned}
use Rattle.plan_timers.specs.declared.reports.Unplanned.TheVariants.{LineNotLoaded, NotLoaded}
use Rattle.plan_tree.specs.Tree.{Held}

-- what is ignored has the path of its file
abbrev pub unplanned_by : (line : Option ℕ) → (why : List ℕ) → Unplanned
unplanned_by None why = NotLoaded why
unplanned_by (Some line) why = LineNotLoaded line why

abbrev pub ignored_for : (path : List ℕ) → Option Ignored → Option NotPlanned
ignored_for path None = None
ignored_for path (Some ignored) = Some (record { path = path; why = unplanned_by ignored.line ignored.why })

abbrev pub ignored_file : Held → KnownDaemon → SourceKind → Option FileBytes → Option NotPlanned
ignored_file held daemon kind None = None
ignored_file held daemon kind (Some file) = ignored_for file.path (file_why held daemon kind file)

-- a source whose file is ignored
abbrev pub ignored_source : Held → KnownDaemon → SourceParts → Option NotPlanned
ignored_source held daemon source = ignored_file held daemon source.kind (slice_get (files_of source.parts) 0)

-- those of some sources, in their order
abbrev pub ignored_among : Held → KnownDaemon → List SourceParts → List NotPlanned
ignored_among held daemon sources = filter_map (ignored_source held daemon) sources

-- the crontabs that are ignored, whether no program reads crontabs although there are some, and which one does
pub record KnownCron : Type 0 where
  pub ignored : List NotPlanned
  pub lacks_daemon : Bool
  pub daemon : CronDaemon

abbrev pub cron_of : Held → List SourceParts → KnownCron
cron_of held sources = record {
  ignored = ignored_among held (daemon_of held) sources;
  lacks_daemon = lacks_cron_daemon held.node sources;
  daemon = (daemon_of held).program;
}
