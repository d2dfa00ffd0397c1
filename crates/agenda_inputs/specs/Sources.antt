-- The sources of a plan, by the given paths. All of it is our choice (agenda).
use Rattle.std.specs.Prelude.{◌≡◌, ℕ, Bool, true, false, if◌then◌else◌, is_none, Option, None, Some, List, [], ◌∷◌, ◌++◌, Ok, Err}
use Rattle.agenda_sources.specs.declared.Asked.{Asked}
use Rattle.agenda_sources.specs.declared.Source.{Source}
use Rattle.agenda_sources.specs.declared.TimeZones.{TimeZones}
use Rattle.agenda_sources.specs.declared.SourcePath.{SourcePath}
use Rattle.agenda_sources.specs.Name.{file_name}
use Rattle.agenda_sources.specs.ZoneNames.{asked_zones, zone_names}
use Rattle.agenda_arguments.specs.declared.ZonesRequest.{ZonesRequest}
use Rattle.agenda_faults.specs.declared.faults.Failure.TheVariants.{File, Run}
use Rattle.agenda_faults.specs.declared.faults.RunFault.TheVariants.{NoMemory}
use Rattle.plan_rules.specs.declared.SourceKind.{SourceKind}
use Rattle.plan_rules.specs.declared.SourceKind.TheVariants.{Spool}
use Rattle.plan_rules.specs.SourceKind.{name_cause}
use Rattle.agenda_inputs.specs.declared.sources.Tried.{Tried}
use Rattle.agenda_inputs.specs.EventZones.{time_zones}
use Rattle.agenda_inputs.specs.Files.{Held, IsUnsure, front_of}
use Rattle.agenda_inputs.specs.Steps.{Step, gives, ◌>>=◌}
use Rattle.agenda_inputs.specs.Zone.{clock_of}

-- the name of a source, by that of its file; a user's crontab has none if `--spool` doesn't take the file's name (agenda)
abbrev pub name_by : SourceKind → (name : List ℕ) → List ℕ
name_by Spool name = if is_none (name_cause Spool name) then name else []
name_by kind name = name

-- a source is read, with its kind and its name
abbrev pub source_of : Held → SourcePath → Step Source
source_of held given = do
  bytes ← front_of (held given.path) (File given.path)
  gives (record { kind = given.kind; name = name_by given.kind (file_name given.path); bytes = bytes })

-- a source is tried. If the request keeps going, there is none if its file may fail
abbrev pub tried_of : (keeps_going : Bool) → Held → SourcePath → Step (Option Source)
tried_of keeps_going held given (Ok (Some source)) = source_of held given (Ok source)
tried_of true held given (Ok None) = IsUnsure (held given.path)
tried_of true held given (Err failure) = failure ≡ Run NoMemory
tried_of false held given (Ok None) = ⊥
tried_of false held given (Err failure) = source_of held given (Err failure)

-- the first path and its source, or the first unreadable path, before the others
abbrev pub with_first : SourcePath → Option Source → Tried → Tried
with_first given (Some source) others = record others { sources = source ∷ others.sources; paths = given ∷ others.paths }
with_first given None others = record others { unread = given ∷ others.unread }

-- the sources are tried in the order of their paths
unfoldable pub tries_of : (keeps_going : Bool) → Held → List SourcePath → Step Tried
tries_of keeps_going held [] = gives (record { sources = []; paths = []; unread = [] })
tries_of keeps_going held (given ∷ paths) = do
  source ← tried_of keeps_going held given
  others ← tries_of keeps_going held paths
  gives (with_first given source others)

-- the same for one more path at the end
abbrev pub with_last : Tried → SourcePath → Option Source → Tried
with_last tried given (Some source) = record tried { sources = tried.sources ++ source ∷ []; paths = tried.paths ++ given ∷ [] }
with_last tried given None = record tried { unread = tried.unread ++ given ∷ [] }

-- what jobs are made from: the zone is read first, then the sources, and then the zones that their events end with
abbrev pub input_of : (keeps_going : Bool) → Held → ZonesRequest → List SourcePath → Step (Tried × TimeZones)
input_of keeps_going held request paths = do
  clock ← clock_of held request.zone
  tried ← tries_of keeps_going held paths
  zones ← time_zones held request clock (zone_names tried.sources)
  gives (tried, zones)

-- the time zones of a rule that is given by itself: the zone is read first, then that of the rule
abbrev pub rule_zones : Held → ZonesRequest → Asked → Step TimeZones
rule_zones held request rule = do
  clock ← clock_of held request.zone
  time_zones held request clock (asked_zones rule)
