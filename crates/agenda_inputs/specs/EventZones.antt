-- The time zones that calendar events end with, by the files of the zones. All of it is our choice (agenda).
use Rattle.std.specs.Prelude.{◌≡◌, ◌≢◌, ℕ, Bool, true, false, ◌||◌, if◌then◌else◌, List, [], ◌∷◌, Option, None, Some, Ok, Err}
use Rattle.std.specs.List.{cons_option}
use Rattle.std.specs.Str.{bytes_eq}
use Rattle.plan_check.specs.Context.{context_of}
use Rattle.plan_clock.specs.declared.row.Change.{Change}
use Rattle.plan_zones.specs.ZoneTexts.{source_of, zone_path}
use Rattle.plan_rules.specs.declared.NamedZone.{NamedZone}
use Rattle.plan_rules.specs.EventZones.{Zones}
use Rattle.agenda_arguments.specs.declared.ZonesRequest.{ZonesRequest}
use Rattle.agenda_faults.specs.declared.faults.RunFault.TheVariants as run
use Rattle.agenda_faults.specs.declared.faults.Failure.{Failure}
use Rattle.agenda_faults.specs.declared.faults.Failure.TheVariants.{Run}
use Rattle.agenda_sources.specs.declared.TimeZones.{TimeZones}
use Rattle.agenda_inputs.specs.Files.{Held}
use Rattle.agenda_inputs.specs.Steps.{Step, computes, gives, ◌>>=◌}
use Rattle.agenda_inputs.specs.Zone.{clock_from}

-- whether the zone of the rules is given by this name, or by the path of the name's file
abbrev pub is_given : (given : Option (List ℕ)) → (name : List ℕ) → Bool
is_given None name = false
is_given (Some text) name = bytes_eq text name || bytes_eq text (zone_path name)

-- a zone is looked up by its name: there is none if its file can't be read or isn't a zone's, or if it has no such name. The request
-- only fails if an allocation does
abbrev pub looked_up : Held → (name : List ℕ) → Step (Option NamedZone)
looked_up held name (Ok (Some zone)) = (zone.name ≡ name) × clock_from held (source_of name) (Ok zone.clock)
looked_up held name (Ok None) = (failure : Failure) × (failure ≢ Run run.NoMemory) × clock_from held (source_of name) (Err failure)
looked_up held name (Err failure) = failure ≡ Run run.NoMemory

-- the same, unless the zone is that of the rules, which was read before
abbrev pub found_by : (is_given : Bool) → Held → (clock : List Change) → (name : List ℕ) → Step (Option NamedZone)
found_by true held clock name = computes (Some (record { name = name; clock = clock }))
found_by false held clock name = looked_up held name

-- the zone with a name, beside the zone of the rules, whose clock this is
abbrev pub found_zone : Held → (given : Option (List ℕ)) → (clock : List Change) → (name : List ℕ) → Step (Option NamedZone)
found_zone held given clock name = found_by (is_given given name) held clock name

-- the zones with these names that are found, in this order
unfoldable pub found_zones : Held → (given : Option (List ℕ)) → (clock : List Change) → (names : List (List ℕ)) → Step (List NamedZone)
found_zones held given clock [] = gives []
found_zones held given clock (name ∷ names) = do
  zone ← found_zone held given clock name
  zones ← found_zones held given clock names
  gives (cons_option zone zones)

-- the same, as zones that events may name
abbrev pub zones_found : Held → (given : Option (List ℕ)) → (clock : List Change) → (names : List (List ℕ)) → Step Zones
zones_found held given clock names = do
  found ← found_zones held given clock names
  gives (Some found)

-- the time zones of rules: with names, events may name the zones that are found; without, they may name none
abbrev pub zones_by : Held → (given : Option (List ℕ)) → (clock : List Change) → (names : Option (List (List ℕ))) → Step TimeZones
zones_by held given clock None = gives (record { clock = clock; timers = context_of None })
zones_by held given clock (Some names) = do
  named ← zones_found held given clock names
  gives (record { clock = clock; timers = context_of named })

-- the names of the zones that are read: none unless that is requested
abbrev pub names_if : (event_zones : Bool) → (names : List (List ℕ)) → Option (List (List ℕ))
names_if event_zones names = if event_zones then Some names else None

-- the time zones of a request, whose events end with zones of these names
abbrev pub time_zones : Held → ZonesRequest → (clock : List Change) → (names : List (List ℕ)) → Step TimeZones
time_zones held request clock names = do
  needed ← computes (names_if request.event_zones names)
  zones_by held request.zone clock needed
