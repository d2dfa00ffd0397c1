-- Which files are opened, and the errors that they give. All of it is our choice (agenda).
use Rattle.std.specs.Prelude.{◌≡◌, ℕ, Bool, true, false, List, [], ◌∷◌, ◌++◌, map, flat_map, Option, None, Some, Result, Ok}
use Rattle.std.specs.declared.io.ErrorKind.{ErrorKind}
use Rattle.std.specs.declared.io.ErrorKind.TheVariants.{OutOfMemory}
use Rattle.plan_zones.specs.declared.zone_fault.ZoneFault.{ZoneFault}
use Rattle.plan_zones.specs.ZoneTexts.{Source as ZoneSource, Path, Name, source_of, zone_path}
use Rattle.agenda_faults.specs.declared.faults.RunFault.TheVariants as run
use Rattle.agenda_faults.specs.declared.faults.Failure.{Failure}
use Rattle.agenda_faults.specs.declared.faults.Failure.TheVariants.{Run}
use Rattle.agenda_sources.specs.declared.SourcePath.{SourcePath}
use Rattle.agenda_sources.specs.declared.Source.{Source}
use Rattle.agenda_sources.specs.ZoneNames.{zone_names}
use Rattle.agenda_arguments.specs.declared.ZonesRequest.{ZonesRequest}
use Rattle.agenda_inputs.specs.EventZones.{is_given, names_if}

-- what is known of a list, after these elements were added at its end
abbrev pub followed_by : {A : Type 0} → Option (List A) → List A → Option (List A)
followed_by None more = None
followed_by (Some so_far) more = Some (so_far ++ more)

-- the first of these files were opened, each once and in this order, and no other
abbrev pub OpensFirst : (files : List (List ℕ)) → (old new : Option (List (List ℕ))) → Type 0
OpensFirst files old new = (done left : List (List ℕ)) × (files ≡ done ++ left) × (new ≡ followed_by old done)

-- the failure of a file that gives an error of this kind: only if that is out of memory, it isn't the file's
abbrev pub failure_of_kind : ErrorKind → (unread : Failure) → Failure
failure_of_kind OutOfMemory unread = Run run.NoMemory
failure_of_kind _ unread = unread

-- a failure is that of an error that the file gave
abbrev pub IsOfError : (unread : Failure) → (old new : Option (List ErrorKind)) → Failure → Type 0
IsOfError unread old new failure =
    (kind : ErrorKind) × (new ≡ followed_by old (kind ∷ [])) × (failure ≡ failure_of_kind kind unread)

-- ---- the files of a request

-- the paths of sources
abbrev pub source_files : List SourcePath → List (List ℕ)
source_files paths = map (λ given. given.path) paths

-- the file of a zone, by the source of its changes: UTC has none
abbrev pub zone_files : Result ZoneSource ZoneFault → List (List ℕ)
zone_files (Ok (Path path)) = path ∷ []
zone_files (Ok (Name name)) = zone_path name ∷ []
zone_files other = []

-- the file of the given zone
abbrev pub clock_files : Option (List ℕ) → List (List ℕ)
clock_files None = []
clock_files (Some text) = zone_files (source_of text)

-- the file of a zone that events name, unless it is the zone of the rules, which was read before
abbrev pub files_unless : (is_given : Bool) → (name : List ℕ) → List (List ℕ)
files_unless true name = []
files_unless false name = zone_files (source_of name)

-- the files of zones that events name, beside the zone of the rules
abbrev pub files_of_names : (given : Option (List ℕ)) → (names : List (List ℕ)) → List (List ℕ)
files_of_names given names = flat_map (λ name. files_unless (is_given given name) name) names

-- the same, if there are names
abbrev pub files_by : (given : Option (List ℕ)) → (names : Option (List (List ℕ))) → List (List ℕ)
files_by given None = []
files_by given (Some names) = files_of_names given names

-- the files of the zones that the events of a request name
abbrev pub event_files : ZonesRequest → (names : List (List ℕ)) → List (List ℕ)
event_files request names = files_by request.zone (names_if request.event_zones names)

-- the files of sources and of their zones: the zone of the rules, then the sources, and then the zones of their events
abbrev pub input_files : ZonesRequest → List SourcePath → (sources : List Source) → List (List ℕ)
input_files request paths sources = clock_files request.zone ++ (source_files paths ++ event_files request (zone_names sources))
