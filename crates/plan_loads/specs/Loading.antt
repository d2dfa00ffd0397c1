-- What the daemons of a machine load of a source, and what is said of the rest.
use Rattle.std.specs.Prelude.{ℕ, Bool, true, false, ◌&&◌, if◌then◌else◌, List, [], ◌∷◌, Option, None, Some}
use Rattle.std.specs.List.{list_any, slice_get}
use Rattle.std.specs.Str.{bytes_eq}
use Rattle.plan_loads.specs.CronLines.{cron_loading}
use Rattle.plan_loads.specs.Texts.{KnownLoading}
use Rattle.plan_loads.specs.ZoneLines.{zone_loading_by}
use Rattle.plan_loads.specs.TimerLines.{timer_loading}
use Rattle.plan_owners.specs.declared.daemon.CronDaemon.{CronDaemon}
use Rattle.plan_owners.specs.declared.daemon.CronDaemon.TheVariants.{Debian, Cronie, Other}
use Rattle.plan_parts.specs.declared.parts.Parts.{Parts}
use Rattle.plan_parts.specs.Files.{FileBytes}
use Rattle.plan_parts.specs.Parts.{files_of, text_of}
use Rattle.plan_rules.specs.declared.crontabs.Kind.{Kind}
use Rattle.plan_rules.specs.declared.crontabs.Kind.TheVariants as whose
use Rattle.plan_rules.specs.declared.source_kind.SourceKind.{SourceKind}
use Rattle.plan_rules.specs.declared.source_kind.SourceKind.TheVariants.{Crontab, System, CronD, Spool, Timer}
use Rattle.plan_rules.specs.FileText.{text_reading}
use Rattle.plan_timers.specs.declared.reports.NotPlanned.{NotPlanned}
use Rattle.plan_timers.specs.declared.reports.Unplanned.{Unplanned}
use Rattle.plan_timers.specs.declared.reports.Unplanned.TheVariants.{LineNotLoaded, NotLoaded}

-- ---- what isn't planned already

-- a file isn't loaded at all for such a reason
abbrev pub is_whole : Unplanned → Bool
is_whole (NotLoaded why) = true
is_whole (LineNotLoaded line why) = true
is_whole other = false

abbrev pub is_of_file : (path : List ℕ) → NotPlanned → Bool
is_of_file path one = is_whole one.why && bytes_eq one.path path

-- the file with this path isn't loaded, by what isn't planned
abbrev pub is_ignored : List NotPlanned → (path : List ℕ) → Bool
is_ignored unplanned path = list_any (is_of_file path) unplanned

abbrev pub is_first_ignored : List NotPlanned → Option FileBytes → Bool
is_first_ignored unplanned None = false
is_first_ignored unplanned (Some file) = is_ignored unplanned file.path

-- ---- a source

abbrev pub nothing_loaded : KnownLoading
nothing_loaded = record { text = None; reports = [] }

abbrev pub all_loaded : (text : List ℕ) → KnownLoading
all_loaded text = record { text = Some text; reports = [] }

-- a crontab of this form, which has one file
abbrev pub crontab_loading : CronDaemon → Kind → (path text : List ℕ) → KnownLoading
crontab_loading Debian kind path text = cron_loading kind path text (text_reading text)
crontab_loading Cronie kind path text = zone_loading_by kind path text (text_reading text)
crontab_loading Other kind path text = all_loaded text

-- a source by its kind, with the path of its first file
abbrev pub kind_loading : CronDaemon → SourceKind → Parts → (path text : List ℕ) → KnownLoading
kind_loading daemon Crontab parts path text = crontab_loading daemon whose.User path text
kind_loading daemon System parts path text = crontab_loading daemon whose.System path text
kind_loading daemon CronD parts path text = crontab_loading daemon whose.System path text
kind_loading daemon Spool parts path text = crontab_loading daemon whose.User path text
kind_loading daemon Timer parts path text = timer_loading parts path text (text_reading text)

abbrev pub path_of_first : Option FileBytes → List ℕ
path_of_first None = []
path_of_first (Some file) = file.path

-- what is loaded of a source, where these things aren't planned already
abbrev pub loading_of : List NotPlanned → CronDaemon → SourceKind → Parts → KnownLoading
loading_of unplanned daemon kind parts =
    let first = slice_get (files_of parts) 0 in
    if is_first_ignored unplanned first then nothing_loaded else
    kind_loading daemon kind parts (path_of_first first) (text_of parts)
