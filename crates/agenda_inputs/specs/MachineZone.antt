-- The clock of a machine's time zone (localtime(5)).
use Rattle.std.specs.Prelude.{◌≡◌, ◌≢◌, ◌⊎◌, ℕ, Bool, true, false, List, [], Option, None, Some, Result, Ok, Err}
use Rattle.plan_clock.specs.declared.row.Change.{Change}
use Rattle.plan_machine.specs.Zone.{Zone, machine_zone}
use Rattle.plan_machine.specs.Zone as zone
use Rattle.plan_rules.specs.declared.NamedZone.{NamedZone}
use Rattle.plan_tree.specs.Tree.{Held as TreeHeld}
use Rattle.plan_zones.specs.ZoneTexts.{Source, Utc, Path, Name, source_of}
use Rattle.plan_zones.specs.declared.zone_fault.ZoneFault.{ZoneFault}
use Rattle.plan_zones.specs.declared.zone_fault.ZoneFault.TheVariants.{NoSuchZone}
use Rattle.agenda_faults.specs.declared.faults.Failure.{Failure}
use Rattle.agenda_faults.specs.declared.faults.Failure.TheVariants.{Run}
use Rattle.agenda_faults.specs.declared.faults.Failure.TheVariants as failure
use Rattle.agenda_faults.specs.declared.machine_faults.MachineFault.TheVariants as machine
use Rattle.agenda_faults.specs.declared.faults.RunFault.TheVariants as run
use Rattle.agenda_inputs.specs.declared.machine_zone.ZoneClock.{ZoneClock}
use Rattle.agenda_inputs.specs.EventZones.{looked_up}
use Rattle.agenda_inputs.specs.Files.{Held, most_read}
use Rattle.agenda_inputs.specs.Steps.{Step, computes, fails, gives, ◌>>=◌}
use Rattle.agenda_inputs.specs.Suggestion.{suggestion}
use Rattle.agenda_inputs.specs.Zone.{clock_of, clock_of_bytes}

-- what contracts know of a tree
pub record KnownTree : Type 0 where
  pub is_known : Bool
  pub held : TreeHeld

-- what is found in a tree. It may be anything if contracts don't know the tree, and an allocation may fail
abbrev pub looks : {X : Type 0} → KnownTree → (X → Type 0) → Step X
looks tree Is (Ok x) = tree.is_known ≡ true → Is x
looks tree Is (Err failure) = failure ≡ Run run.NoMemory

-- a failure with a text, for which an allocation may fail
abbrev pub fails_with : {X : Type 0} → Failure → Step X
fails_with failure (Ok x) = ⊥
fails_with failure (Err found) = (found ≡ failure) ⊎ (found ≡ Run run.NoMemory)

-- the name of the zone that may be meant by a text, if there is no zone with this one
abbrev pub suggestion_for : Held → (text : List ℕ) → ZoneFault → Step (Option (List ℕ))
suggestion_for held text NoSuchZone = suggestion held text
suggestion_for held text other = gives None

-- the failure of a zone that can't be used has the text of the zone, and the name of the zone that may be meant
abbrev pub fails_for_zone : {X : Type 0} → Held → (text : List ℕ) → ZoneFault → Step X
fails_for_zone held text fault = do
  like ← suggestion_for held text fault
  fails_with (failure.Machine (machine.Zone text fault like))

-- any other failure stays
abbrev pub names_failure : {X : Type 0} → Held → (text : List ℕ) → Failure → Step X
names_failure {X = X} held text found end =
    ((fault : ZoneFault) × (found ≡ failure.Zone fault) × fails_for_zone {X = X} held text fault end)
    ⊎ (((fault : ZoneFault) → found ≢ failure.Zone fault) × (end ≡ Err found))

-- what is given, or its failure in that way
abbrev pub names_zone : {X : Type 0} → Held → (text : List ℕ) → Result X Failure → Step X
names_zone held text (Ok x) = gives x
names_zone held text (Err found) = names_failure held text found

-- the same, after a step
abbrev pub naming_zone : {X : Type 0} → Held → (text : List ℕ) → Step X → Step X
naming_zone {X = X} held text step end = (found : Result X Failure) × step found × names_zone held text found end

-- the zone that `--zone` gives
abbrev pub given_clock : Held → List ℕ → Step ZoneClock
given_clock held text = do
  clock ← naming_zone held text (clock_of held (Some text))
  computes (record { name = Some text; is_of_file = false; clock = clock; is_unknown = false })

-- UTC, which is also the zone if it isn't known
abbrev pub utc_clock : (is_unknown : Bool) → ZoneClock
utc_clock is_unknown = record { name = None; is_of_file = false; clock = []; is_unknown = is_unknown }

-- a zone that the running machine has, if it has it
abbrev pub clock_if_found : Option NamedZone → Step ZoneClock
clock_if_found None = gives (utc_clock true)
clock_if_found (Some zone) = gives (record { name = Some zone.name; is_of_file = false; clock = zone.clock; is_unknown = false })

-- the zone of a file with this clock, with its name if it has one. What is no TZif file tells no zone
abbrev pub told_zone : (name : Option (List ℕ)) → Result (List Change) Failure → Step ZoneClock
told_zone name (Ok clock) = gives (record { name = name; is_of_file = true; clock = clock; is_unknown = false })
told_zone name (Err (failure.Zone fault)) = gives (utc_clock true)
told_zone name (Err other) = fails other

-- the zone of a file below the root with these bytes
abbrev pub zone_of_file : (name : Option (List ℕ)) → (bytes : List ℕ) → Step ZoneClock
zone_of_file name bytes end = (clock : Result (List Change) Failure) × clock_of_bytes bytes clock × told_zone name clock end

-- the file of a named zone is that below the root, or else that of the running machine
abbrev pub named_clock : Held → List ℕ → Option (List ℕ) → Step ZoneClock
named_clock held name (Some bytes) = zone_of_file (Some name) bytes
named_clock held name None = do
  zone ← looked_up held name
  clock_if_found zone

-- only a name names a zone, or UTC: a path doesn't
abbrev pub clock_by_name : Held → List ℕ → Option (List ℕ) → Result Source ZoneFault → Step ZoneClock
clock_by_name held name bytes (Ok Utc) = gives (utc_clock false)
clock_by_name held name bytes (Ok (Path path)) = gives (utc_clock true)
clock_by_name held name bytes (Ok (Name same)) = named_clock held name bytes
clock_by_name held name bytes (Err fault) = gives (utc_clock true)

-- the clock of a machine's own zone
abbrev pub clock_by_zone : Held → Zone → Step ZoneClock
clock_by_zone held zone.Utc = gives (utc_clock false)
clock_by_zone held (zone.Named name bytes) = clock_by_name held name bytes (source_of name)
clock_by_zone held (zone.Local (Some bytes)) = zone_of_file None bytes
clock_by_zone held (zone.Local None) = gives (utc_clock true)
clock_by_zone held zone.Unknown = gives (utc_clock true)

-- the clock of the zone that is given, or else that of the machine
abbrev pub machine_clock : Held → KnownTree → (given : Option (List ℕ)) → Step ZoneClock
machine_clock held tree (Some text) = given_clock held text
machine_clock held tree None = do
  zone ← looks tree (λ zone. zone ≡ machine_zone tree.held most_read)
  clock_by_zone held zone
