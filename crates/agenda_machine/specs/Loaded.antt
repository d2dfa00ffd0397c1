-- The sources of a machine as a plan reads them: only what its daemons load, and without its idle jobs (agenda).
use Rattle.std.specs.Prelude.{◌≡◌, ℕ, Bool, true, false, if◌then◌else◌, List, [], ◌∷◌, ◌++◌, codes, filter, map, Option, None, Some, Ok}
use Rattle.std.specs.List.{cons_option, flat_map}
use Rattle.std.specs.Option.{option_map}
use Rattle.agenda_sources.specs.declared.Source.{Source}
use Rattle.agenda_machine.specs.Idle.{idle_reports, kept_text, whose_crontab}
use Rattle.plan_loads.specs.Loading.{loading_of}
use Rattle.plan_loads.specs.Texts.{KnownLoading}
use Rattle.plan_machine.specs.Daemon.{has_cron_daemon}
use Rattle.plan_machine.specs.Source.{SourceParts}
use Rattle.plan_machine.specs.declared.CronDaemon.{CronDaemon}
use Rattle.plan_machine.specs.declared.NotPlanned.{NotPlanned}
use Rattle.plan_machine.specs.declared.Unplanned.TheVariants.{LineUnknown}
use Rattle.plan_machine.specs.declared.machine.Machine.{Machine}
use Rattle.plan_rules.specs.declared.Kind.{Kind}
use Rattle.plan_rules.specs.Crontab.{entries_of_lines}
use Rattle.plan_rules.specs.FileText.{text_reading}
use Rattle.plan_runs.specs.Idle.{is_active}
use Rattle.plan_texts.specs.Lines.{lines}
use Rattle.plan_tree.specs.Links.{end_of}
use Rattle.plan_tree.specs.Tree.{Held}
use Rattle.plan_tree.specs.declared.links.End.{End}
use Rattle.plan_tree.specs.declared.links.End.TheVariants.{Found}

-- ---- what is loaded

-- a source with the text that is loaded of it, if anything is
abbrev pub loaded_source : SourceParts → (text : Option (List ℕ)) → Option Source
loaded_source source text = option_map (λ bytes. record { kind = source.kind; name = source.name; bytes = bytes }) text

-- the sources of which anything is loaded, in order, where these things aren't planned already
abbrev pub loaded_from : List NotPlanned → CronDaemon → List SourceParts → List Source
loaded_from unplanned daemon [] = []
loaded_from unplanned daemon (source ∷ more) =
    cons_option (loaded_source source (loading_of unplanned daemon source.kind source.parts).text) (loaded_from unplanned daemon more)

-- what isn't planned of the sources by their texts, in order
abbrev pub unloaded_from : List NotPlanned → CronDaemon → List SourceParts → List NotPlanned
unloaded_from unplanned daemon [] = []
unloaded_from unplanned daemon (source ∷ more) =
    (loading_of unplanned daemon source.kind source.parts).reports ++ unloaded_from unplanned daemon more

-- the sources of a machine with what is loaded of them
abbrev pub loaded_sources : Machine → List Source
loaded_sources machine = loaded_from machine.unplanned.items machine.cron_daemon machine.sources.items

-- ---- what is missing

-- the report of a directory, by where its path with `/.` at its end leads: if nowhere, it may be on a disk that isn't mounted (agenda)
abbrev pub missing_place : End → (path why : List ℕ) → List NotPlanned
missing_place (Found dir) path why = []
missing_place other path why = record { path = path; why = LineUnknown 0 why } ∷ []

-- the directories that a machine lacks, though it has to have them: that of users' crontabs, which comes with a cron daemon, and var/lib,
-- which has the users that linger (agenda)
abbrev pub missing_places : Held → List NotPlanned
missing_places held =
    (if has_cron_daemon held.node
    then missing_place (end_of held.node (codes "var/spool/cron/.")) (codes "var/spool/cron")
    (codes "no directory of users' crontabs: is another disk mounted there?")
    else [])
    ++ missing_place (end_of held.node (codes "var/lib/.")) (codes "var/lib") (codes "is another disk mounted there?")

-- what isn't planned on a machine by a question about jobs: what isn't anyway, what isn't loaded by its text or starts at times that
-- this doesn't tell, and what is missing
abbrev pub unplanned_jobs : Held → Machine → List NotPlanned
unplanned_jobs held machine =
    machine.unplanned.items ++ unloaded_from machine.unplanned.items machine.cron_daemon machine.sources.items ++ missing_places held

-- ---- idle jobs

-- a source that is loaded, without its idle jobs, unless these are planned
abbrev pub kept_source : Held → (idle : Bool) → Source → Source
kept_source held idle source = record source { bytes = (kept_text held idle source.kind source.name source.bytes).text }

-- the sources of a machine as a plan reads them
abbrev pub planned_sources : Held → (idle : Bool) → Machine → List Source
planned_sources held true machine = loaded_sources machine
planned_sources held false machine = map (kept_source held false) (loaded_sources machine)

-- the idle jobs that aren't planned of a source, where these things aren't planned already
abbrev pub idle_of : Held → (idle : Bool) → List NotPlanned → CronDaemon → SourceParts → List NotPlanned
idle_of held idle unplanned daemon source =
    idle_reports held idle source (loading_of unplanned daemon source.kind source.parts).text

-- the idle jobs of a machine, source by source
abbrev pub idle_jobs : Held → Machine → List NotPlanned
idle_jobs held machine = flat_map (idle_of held false machine.unplanned.items machine.cron_daemon) machine.sources.items

-- what isn't planned on a machine by a question about jobs
abbrev pub unplanned_with_idle : Held → (idle : Bool) → Machine → List NotPlanned
unplanned_with_idle held true machine = unplanned_jobs held machine
unplanned_with_idle held false machine = unplanned_jobs held machine ++ idle_jobs held machine

-- ---- the law

-- the text of a crontab has exactly the entries that its text with idle jobs has, but those of the idle jobs
abbrev pub HasOtherEntries : Held → Kind → Source → (label : List ℕ) → Type 0
HasOtherEntries held kind source label =
    entries_of_lines label kind (lines (kept_source held false source).bytes)
    ≡ filter (λ entry. is_active (kept_text held false source.kind source.name source.bytes).idle entry) (entries_of_lines label kind (lines source.bytes))

-- a plan reads the same sources, in the same order, with and without idle jobs, and without them each crontab has exactly the entries of
-- the other jobs
abbrev pub IdleJobsOfMachineAreLeftOut : Type 0
IdleJobsOfMachineAreLeftOut =
    (held : Held) (machine : Machine) →
    (planned_sources held false machine ≡ map (kept_source held false) (planned_sources held true machine))
    × ((kind : Kind) (source : Source) (label : List ℕ) → whose_crontab source.kind ≡ Some kind →
    text_reading source.bytes ≡ Ok source.bytes → HasOtherEntries held kind source label)
