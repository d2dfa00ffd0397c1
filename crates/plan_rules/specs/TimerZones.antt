-- The time zones that the events of timer files end with (systemd.time(7)).
use Rattle.std.specs.Prelude.{◌≡◌, ℕ, Bool, false, List, [], ◌∷◌, Option, None, Ok, Err}
use Rattle.std.specs.Char.{is_ascii}
use Rattle.std.specs.List.{filter_map, list_all}
use Rattle.plan_grammar.specs.declared.NamedZone.{NamedZone}
use Rattle.plan_grammar.specs.Event.{zone_name}
use Rattle.plan_grammar.specs.EventZones.{clock_named}
use Rattle.plan_rules.specs.LineFaults.{TextReading}
use Rattle.plan_rules.specs.Timer.{Effect, Reset, Event, Starts, Nothing, effects_from}
use Rattle.plan_rules.specs.TimerEntries.{timer_lines}

-- the name by which the zone of an event is looked up
abbrev pub effect_zone : Effect → Option (List ℕ)
effect_zone (Event text) = zone_name text
effect_zone Reset = None
effect_zone (Starts unit) = None
effect_zone Nothing = None

-- the names of the zones of lines' events, in order; the first line is in a `[Timer]` section if `inside`
abbrev pub zones_from : Bool → List (ℕ × List ℕ) → List (List ℕ)
zones_from inside lines = filter_map (λ effect. effect_zone (effect.1)) (effects_from inside lines)

-- the same for the whole lines of a text, if it has lines
abbrev pub lines_zones : TextReading (List (ℕ × List ℕ)) → List (List ℕ)
lines_zones (Ok lines) = zones_from false lines
lines_zones (Err fault) = []

-- the names of the zones of a timer file's events, in order; an event that is rejected may have one too
abbrev pub timer_zones : (bytes : List ℕ) → List (List ℕ)
timer_zones bytes = lines_zones (timer_lines bytes)

-- ---- which zones matter

-- two lists have the same clocks for these names
abbrev pub HaveSameClocks : (zones others : List NamedZone) → (names : List (List ℕ)) → Type 0
HaveSameClocks zones others [] = Unit {0}
HaveSameClocks zones others (name ∷ names) = (clock_named name zones ≡ clock_named name others) × HaveSameClocks zones others names

-- the names of all zones are ASCII (tzdata)
abbrev pub are_ascii : List NamedZone → Bool
are_ascii zones = list_all (λ zone. list_all is_ascii zone.name) zones
