-- The time zones that calendar events may name (systemd.time(7)).
use Rattle.std.specs.Prelude.{ℕ, Bool, not, ◌||◌, if◌then◌else◌, List, [], codes, Option, Some, None, Ok, find, ok_or}
use Rattle.std.specs.Char.{is_ascii}
use Rattle.std.specs.List.{list_all}
use Rattle.std.specs.Option.{option_map}
use Rattle.std.specs.Str.{bytes_eq, str_eq_ignore_ascii_case}
use Rattle.plan_clock.specs.declared.row.Change.{Change}
use Rattle.plan_grammar.specs.declared.event_zones.NamedZone.{NamedZone}
use Rattle.plan_grammar.specs.declared.fault.RuleCause.TheVariants.{UnknownZone, Zone}
use Rattle.plan_grammar.specs.Readings.{Reading, rejected}

-- the zones that events may name besides UTC: these, or none if there is no list (agenda)
abbrev pub Zones : Type 0
Zones = Option (List NamedZone)

-- UTC, in any case of its letters; it has no file (systemd.time(7); the case: measured)
abbrev pub is_utc : List ℕ → Bool
is_utc name = str_eq_ignore_ascii_case name (codes "utc")

-- the clock of the zone with this name; names are compared exactly (tzdata)
abbrev pub clock_named : (name : List ℕ) → List NamedZone → Option (List Change)
clock_named name known = option_map (λ zone. zone.clock) (find (λ zone. bytes_eq zone.name name) known)

-- the clock of a zone other than UTC; without a list no such zone may be named, and otherwise it must be in the list (agenda)
abbrev pub other_clock : Zones → (name : List ℕ) → Reading (List Change)
other_clock None name = rejected 8 Zone
other_clock (Some known) name = ok_or (clock_named name known) (record { part = 8; cause = UnknownZone })

-- the clock of the zone with this name, which an event ends with (systemd.time(7)); that of UTC has no changes
unfoldable pub zone_clock : Zones → (name : List ℕ) → Reading (List Change)
zone_clock zones name = if is_utc name then Ok [] else other_clock zones name

-- the name by which a zone is looked up in the time zone database, where names are ASCII (tzdata). UTC isn't looked up
abbrev pub name_in_database : (name : List ℕ) → Option (List ℕ)
name_in_database name = if is_utc name || not (list_all is_ascii name) then None else Some name
