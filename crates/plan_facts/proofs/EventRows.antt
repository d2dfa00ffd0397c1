-- Worked rows of systemd.time(7), read only by the definitions.
-- They answer no goal of a function, but test `event_reading` and `event_matches`. Each text is computed, with
-- the definitions unfolded. Whether a day matches needs `has_value-values_where` too.
use Rattle.std.proofs.Common.{◌≡◌, ℕ, Bool, true, false, List, [], ◌∷◌, map, codes, pos, if◌then◌else◌, Option, Some, None, Ok, Err, refl}
use Rattle.plan_sets.specs.declared.item.Item.TheVariants.{One, Onward, Range}
use Rattle.plan_sets.specs.declared.item.SetFault.TheVariants.{OutOfRange, Backwards, ZeroStep}
use Rattle.plan_sets.specs.declared.civil.Civil.{Civil}
use Rattle.plan_sets.specs.Limits.{first_year, last_year}
use Rattle.plan_sets.specs.Values.{values_where}
use Rattle.plan_sets.specs.Items.{held_values}
use Rattle.plan_sets.specs.ValuesLaws.{has_value-values_where}
use Rattle.plan_grammar.specs.declared.fault.RuleCause.TheVariants.{WrongParts, BadNumber, BadName, Values, Fraction, UnknownZone, Zone, UnknownWord, Specifier}
use Rattle.plan_clock.specs.declared.row.Change.{Change}
use Rattle.plan_match.specs.declared.event.DayCount.TheVariants.{FromStart, FromEnd}
use Rattle.plan_match.specs.declared.event.Calendar.{Calendar}
use Rattle.plan_match.specs.declared.rule.Rule.TheVariants.{Events}
use Rattle.plan_texts.specs.Text.{words}
use Rattle.plan_grammar.specs.Readings.{Reading, rejected}
use Rattle.plan_grammar.specs.EventZones.{Zones}
use Rattle.plan_grammar.specs.Event.{is_listed_place, zone_cut, zone_name, event_reading, event_rule_reading}
use Rattle.plan_match.specs.EventMatch.{event_matches}
use Rattle.plan_facts.specs.Rows.{RowsHold}
use Rattle.plan_facts.proofs.OnTexts.{on_events}

-- every second of every day
every_second : event_reading None (codes "*:*:*") ≡ Ok (record {
  years = held_values (Range first_year last_year 1 ∷ []) first_year last_year;
  months = held_values (Range 1 12 1 ∷ []) 1 12;
  days = held_values (Range 1 31 1 ∷ []) 1 31;
  day_count = FromStart;
  hours = held_values (Range 0 23 1 ∷ []) 0 23;
  minutes = held_values (Range 0 59 1 ∷ []) 0 59;
  seconds = held_values (Range 0 59 1 ∷ []) 0 59;
  weekdays = None;
  names_zone = false;
  clock = [];
})
unfolding on_events
every_second = refl

-- weekdays, lists, ranges and steps; missing years are all of them
lists_ranges_and_steps : event_reading None (codes "Sat,Mon..Tue 10-1..7/3 8..9:0/30:15") ≡ Ok (record {
  years = held_values (Range first_year last_year 1 ∷ []) first_year last_year;
  months = held_values (One 10 ∷ []) 1 12;
  days = held_values (Range 1 7 3 ∷ []) 1 31;
  day_count = FromStart;
  hours = held_values (Range 8 9 1 ∷ []) 0 23;
  minutes = held_values (Onward 0 30 ∷ []) 0 59;
  seconds = held_values (One 15 ∷ []) 0 59;
  weekdays = Some (held_values (One 5 ∷ Range 0 1 1 ∷ []) 0 6);
  names_zone = false;
  clock = [];
})
unfolding on_events
lists_ranges_and_steps = refl

-- days from the month's end
third_last_of_february : event_rule_reading None (codes "*-02~03") ≡ Ok (Events (record {
  years = held_values (Range first_year last_year 1 ∷ []) first_year last_year;
  months = held_values (One 2 ∷ []) 1 12;
  days = values_where 1 31 (is_listed_place (One 3 ∷ []));
  day_count = FromEnd;
  hours = held_values (One 0 ∷ []) 0 23;
  minutes = held_values (One 0 ∷ []) 0 59;
  seconds = held_values (One 0 ∷ []) 0 59;
  weekdays = None;
  names_zone = false;
  clock = [];
} ∷ []))
unfolding on_events
third_last_of_february = refl

-- a word of the table, in any case, also before the zone
words_of_the_table : map (event_reading None) (codes "weekly" ∷ codes "qUARTERLY utc" ∷ codes "Wed, 17:48 UTC" ∷ codes "Mon..mon" ∷ [])
    ≡ map (event_reading None) (codes "Mon *-*-* 00:00:00" ∷ codes "*-01,04,07,10-01 UTC" ∷ codes "wednesday *-* 17:48:00 uTC" ∷ codes
    "monday..Monday" ∷ [])
unfolding on_events
words_of_the_table = refl

-- whether a text is an event that names a zone
abbrev zone_of : Reading Calendar → Bool
zone_of (Ok event) = event.names_zone
zone_of (Err fault) = false

-- it is one if there are several words and the last is the zone
named_zones : map (λ text. zone_of (event_reading None text))
    (codes "Mon 09:00 UTC" ∷ codes "daily utc" ∷ codes "Mon 09:00" ∷ codes "daily" ∷ []) ≡ true ∷ true ∷ false ∷ false ∷ []
unfolding on_events
named_zones = refl

-- a list with one zone
abbrev one_zone : Zones
one_zone = Some (record { name = codes "Europe/Oslo"; clock = record { second = 0; offset = pos 3600 } ∷ [] } ∷ [])

-- the clock that a text has of its own
abbrev clock_of : Reading Calendar → Option (List Change)
clock_of (Ok event) = if event.names_zone then Some event.clock else None
clock_of (Err fault) = None

-- a zone of the list, UTC in any case, and no zone
zones_of_texts : map (λ text. clock_of (event_reading one_zone text))
    (codes "Mon 09:00 Europe/Oslo" ∷ codes "daily\tEurope/Oslo " ∷ codes "daily Utc" ∷ codes "daily" ∷ []) ≡
    Some (record { second = 0; offset = pos 3600 } ∷ []) ∷ Some (record { second = 0; offset = pos 3600 } ∷ []) ∷ Some [] ∷ None ∷ []
unfolding on_events
zones_of_texts = refl

-- with a list, a zone that isn't in it is unknown; names are compared exactly, and a first word is no zone
unknown_zones : map (event_reading one_zone)
    (codes "daily Europe/Berlin" ∷ codes "daily europe/oslo" ∷ codes "daily Europe/Oslo/" ∷ codes "Europe/Oslo" ∷ [])
    ≡ rejected 8 UnknownZone ∷ rejected 8 UnknownZone ∷ rejected 8 UnknownZone ∷ rejected 1 BadName ∷ []
unfolding on_events
unknown_zones = refl

-- the names by which zones are looked up: the last of several words, unless it is UTC or not in ASCII
names_to_look_up : map zone_name
    (codes "Mon 09:00 Europe/Oslo" ∷ codes "daily Etc/GMT+5" ∷ codes "daily utc" ∷ codes "Europe/Oslo" ∷ codes "Mon 09:00" ∷ codes
    "daily Tromsø" ∷ codes "no event Oslo" ∷ [])
    ≡ Some (codes "Europe/Oslo") ∷ Some (codes "Etc/GMT+5") ∷ None ∷ None ∷ None ∷ None ∷ Some (codes "Oslo") ∷ []
unfolding words zone_cut
names_to_look_up = refl

-- invalid texts, each with its error
rejections : RowsHold (event_reading None)
    ((codes "Mon 12:00:00.5", rejected 7 Fraction)
    ∷ (codes "daily Europe/Oslo", rejected 8 Zone)
    ∷ (codes "*-*-9..3", rejected 4 (Values Backwards))
    ∷ (codes "fortnightly", rejected 0 UnknownWord)
    ∷ (codes "*-*-%i", rejected 0 Specifier)
    ∷ (codes " ", rejected 0 WrongParts)
    ∷ (codes "UTC", rejected 0 UnknownWord)
    ∷ (codes "Sat..Mon", rejected 1 (Values Backwards))
    ∷ (codes "Mon,,", rejected 1 WrongParts)
    ∷ (codes "Mond 12:00", rejected 1 BadName)
    ∷ (codes "*-*~*/2", rejected 4 WrongParts)
    ∷ (codes "*-*~0", rejected 4 (Values OutOfRange))
    ∷ (codes "*-*~32/0", rejected 4 (Values OutOfRange))
    ∷ (codes "*-*~3..5/0", rejected 4 (Values ZeroStep))
    ∷ (codes "~3", rejected 3 WrongParts)
    ∷ (codes "1969-1-1", rejected 2 (Values OutOfRange))
    ∷ (codes "12024-1-1", rejected 2 BadNumber)
    ∷ (codes "12:00:00:00", rejected 0 WrongParts)
    ∷ (codes "12:00 1-1", rejected 0 WrongParts)
    ∷ (codes "2024-1", rejected 3 (Values OutOfRange))
    ∷ [])
unfolding on_events
rejections = refl

-- the order in which a text is read: specifier, zone, shape, weekdays, and then the components from the year on
first_faults : RowsHold (event_reading None)
    ((codes "Foo 1 2 3 Oslo %", rejected 0 Specifier)
    ∷ (codes "Foo 1 2 3 Oslo", rejected 8 Zone)
    ∷ (codes "Foo 1 2 3", rejected 0 WrongParts)
    ∷ (codes "Tue..Mon,Foo +-1-1", rejected 1 BadName)
    ∷ (codes "Tue..Mon +-1-1", rejected 1 (Values Backwards))
    ∷ (codes "+-x-z +:b:c", rejected 2 BadNumber)
    ∷ (codes "1-x-z +:b:c", rejected 3 BadNumber)
    ∷ (codes "1-1-z +:b:c", rejected 4 BadNumber)
    ∷ (codes "1-1-1 +:b:c", rejected 5 BadNumber)
    ∷ (codes "1-1-1 9:b:.5", rejected 6 BadNumber)
    ∷ (codes "1-1-1 9:9:.5", rejected 7 Fraction)
    ∷ (codes "*-*-32,x", rejected 4 BadNumber)
    ∷ (codes "*-*~x../+", rejected 4 BadNumber)
    ∷ (codes "*-*~*/+", rejected 4 BadNumber)
    ∷ [])
unfolding on_events
first_faults = refl

-- civil fields of a second
at_time : ℕ → ℕ → ℕ → ℕ → ℕ → ℕ → ℕ → Civil
at_time year month day weekday hour minute second = record {
  year = year;
  month = month;
  day = day;
  weekday = weekday;
  hour = hour;
  minute = minute;
  second = second;
}

-- whether a text is an event that matches civil fields
abbrev match_reading : Reading Calendar → Civil → Bool
match_reading (Ok event) civil = event_matches event civil
match_reading (Err fault) civil = false

-- the third last day of February is the 27th in 2024 and the 26th in 2025
from_the_end : map (match_reading (event_reading None (codes "*-02~03")))
    (at_time 2024 2 27 1 0 0 0 ∷ at_time 2025 2 26 2 0 0 0 ∷ at_time 2024 2 26 0 0 0 0 ∷ at_time 2024 3 29 4 0 0 0 ∷ at_time 2024 2
    27 1 0 0 1 ∷ []) ≡ true ∷ true ∷ false ∷ false ∷ false ∷ []
unfolding on_events at_time
from_the_end = simp has_value-values_where

-- the last Monday of May is among the last seven days
last_monday_of_may : map (match_reading (event_reading None (codes "Mon *-05~07/1")))
    (at_time 2024 5 27 0 0 0 0 ∷ at_time 2024 5 20 0 0 0 0 ∷ at_time 2024 5 28 1 0 0 0 ∷ []) ≡ true ∷ false ∷ false ∷ []
unfolding on_events at_time
last_monday_of_may = simp has_value-values_where

-- a range after `~` may be in either order, and its steps go down from the greater place
either_way : map (match_reading (event_reading None (codes "*-*~1..3/2 12:00")))
    (at_time 2024 2 27 1 12 0 0 ∷ at_time 2024 2 28 2 12 0 0 ∷ at_time 2024 2 29 3 12 0 0 ∷ []) ≡ true ∷ false ∷ true ∷ []
unfolding on_events at_time
either_way = simp has_value-values_where

-- years of two digits are 1970 to 2069
two_digits : map (λ (text : List ℕ). match_reading (event_reading None text) (at_time 1999 2 3 2 4 5 0))
    (codes "99-2-3 4:5" ∷ codes "1999-2-3 4:5" ∷ codes "69-2-3 4:5" ∷ []) ≡ true ∷ true ∷ false ∷ []
unfolding on_events at_time
two_digits = simp has_value-values_where
