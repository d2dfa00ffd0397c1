-- The meaning of the text of a calendar event (systemd.time(7), calendar events): an event, or the first error with its part.
use Rattle.std.specs.Prelude.{ℕ, ◌+◌, ◌-◌, ◌%◌, Bool, true, false, not, ◌&&◌, ◌||◌, ◌==◌, nat_le, nat_lt, if◌then◌else◌, List, [], ◌∷◌, length, take, drop, min, max, find, position, slice_index_or, codes, Option, Some, None, option_and_then, Result, Ok, is_some, ok_or}
use Rattle.std.specs.Char.{is_ascii_alphabetic}
use Rattle.std.specs.List.{list_any, list_all}
use Rattle.std.specs.Option.{option_map}
use Rattle.std.specs.Str.{byte, bytes_eq, str_eq_ignore_ascii_case}
use Rattle.plan_sets.specs.declared.item.Item.{Item}
use Rattle.plan_sets.specs.declared.item.Item.TheVariants.{One, Onward, Range}
use Rattle.plan_sets.specs.declared.item.SetFault.{SetFault}
use Rattle.plan_sets.specs.declared.item.SetFault.TheVariants.{OutOfRange, ZeroStep}
use Rattle.plan_sets.specs.Limits.{first_year, last_year}
use Rattle.plan_sets.specs.Values.{Values as SetOfValues, values_where}
use Rattle.plan_sets.specs.Items.{is_within, fault_or, values_or_fault, set_reading}
use Rattle.plan_grammar.specs.declared.fault.RuleCause.TheVariants.{WrongParts, BadName, Fraction, UnknownWord, Specifier}
use Rattle.plan_grammar.specs.declared.element.Side.{Side}
use Rattle.plan_grammar.specs.declared.element.Side.TheVariants.{Star, Value, Between}
use Rattle.plan_grammar.specs.declared.component.Component.{Component}
use Rattle.plan_grammar.specs.declared.component.Component.TheVariants.{Year, Month, Day, Place, Hour, Minute, Second}
use Rattle.plan_clock.specs.declared.row.Change.{Change}
use Rattle.plan_match.specs.declared.event.DayCount.{DayCount}
use Rattle.plan_match.specs.declared.event.DayCount.TheVariants.{FromStart, FromEnd}
use Rattle.plan_match.specs.declared.event.Calendar.{Calendar}
use Rattle.plan_match.specs.declared.rule.Rule.{Rule}
use Rattle.plan_match.specs.declared.rule.Rule.TheVariants.{Events}
use Rattle.plan_texts.specs.Text.{words, pieces, begins_with, cut_at}
use Rattle.plan_texts.specs.Steps.{◌>>=◌, each}
use Rattle.plan_grammar.specs.Readings.{Reading, rejected}
use Rattle.plan_grammar.specs.EventZones.{Zones, name_in_database, zone_clock}
use Rattle.plan_grammar.specs.Elements.{number_reading, side_by, cut_item_by, values_by}
use Rattle.plan_grammar.specs.Shape.{ShapeText, shape_reading}

-- whether a text contains a byte
abbrev pub holds_byte : ℕ → List ℕ → Bool
holds_byte b text = list_any (λ c. c == b) text

-- the part that a component is, in the order of reading (agenda)
abbrev pub component_part : Component → ℕ
component_part Year = 2
component_part Month = 3
component_part Day = 4
component_part Place = 4
component_part Hour = 5
component_part Minute = 6
component_part Second = 7

-- the minimum value of a component (systemd.time(7); the first year: (agenda))
abbrev pub least_of : Component → ℕ
least_of Year = first_year
least_of Month = 1
least_of Day = 1
least_of Place = 1
least_of Hour = 0
least_of Minute = 0
least_of Second = 0

-- the maximum value of a component (systemd.time(7); the last year: (agenda))
abbrev pub greatest_of : Component → ℕ
greatest_of Year = last_year
greatest_of Month = 12
greatest_of Day = 31
greatest_of Place = 31
greatest_of Hour = 23
greatest_of Minute = 59
greatest_of Second = 59

-- a number of a component; a fraction of a second is rejected before the number is read (agenda)
unfoldable pub component_number : Component → List ℕ → Reading ℕ
component_number Second text = if holds_byte (byte ".") text then rejected 7 Fraction else number_reading 7 text
component_number Year text = number_reading 2 text
component_number Month text = number_reading 3 text
component_number Day text = number_reading 4 text
component_number Place text = number_reading 4 text
component_number Hour text = number_reading 5 text
component_number Minute text = number_reading 6 text

-- the year of a number; if it has one or two digits, 2000 is added below 70, else 1900 (systemd.time(7))
abbrev pub full_year : List ℕ → ℕ → ℕ
full_year text year =
    if nat_le (length text) 2 then (if nat_lt year 70 then year + 2000 else year + 1900) else year

-- a value of a component: only a year can differ from its number
unfoldable pub component_value : Component → List ℕ → Reading ℕ
component_value Year text = do
  year ← component_number Year text
  Ok (full_year text year)
component_value Month text = component_number Month text
component_value Day text = component_number Day text
component_value Place text = component_number Place text
component_value Hour text = component_number Hour text
component_value Minute text = component_number Minute text
component_value Second text = component_number Second text

-- what comes before a step, with `..` between the ends of a range (systemd.time(7))
unfoldable pub component_side : Component → List ℕ → Reading Side
component_side component text = side_by (component_value component) (codes "..") text

-- the item of an element (systemd.time(7), ranges and repetition values): `a/r` is a and every r-th value after it
abbrev pub spread_item : Component → Side → Option ℕ → Item
spread_item component Star None = Range (least_of component) (greatest_of component) 1
spread_item component Star (Some step) = Onward (least_of component) step
spread_item component (Value value) None = One value
spread_item component (Value value) (Some step) = Onward value step
spread_item component (Between first last) None = Range first last 1
spread_item component (Between first last) (Some step) = Range first last step

-- the item of an element, as in `spread_item`; in days from the month's end a step after `*` is rejected (agenda)
abbrev pub component_item_of : Component → Side → Option ℕ → Reading Item
component_item_of Place Star (Some step) = rejected 4 WrongParts
component_item_of component side step = Ok (spread_item component side step)

-- an element of a component: what comes before its first `/`, and the step after it (systemd.time(7))
unfoldable pub component_item : Component → List ℕ → Reading Item
component_item component text =
    cut_item_by (component_side component) (component_number component) (component_item_of component) text (cut_at (codes "/") text)

-- the items of a component: its elements are separated by commas (systemd.time(7), lists)
unfoldable pub component_items : Component → List ℕ → Reading (List Item)
component_items component text = each (component_item component) (pieces (byte ",") text)

-- whether the day at a place from the month's end belongs to an item (systemd.time(7), `~`; (agenda) for ranges, which
-- may run in either direction, and for steps, which go from the greater place down, towards the month's last day)
abbrev pub place_belongs : Item → ℕ → Bool
place_belongs (One a) p = p == a
place_belongs (Onward a step) p = nat_le p a && ((a - p) % step == 0)
place_belongs (Range a b step) p = nat_le (min a b) p && (nat_le p (max a b) && ((max a b - p) % step == 0))

-- a step of 0 is an error (agenda)
abbrev pub step_fault : ℕ → Option SetFault
step_fault step = if step == 0 then Some ZeroStep else None

-- what is wrong with an item of places: a place outside 1 to 31, else a step of 0 (agenda)
abbrev pub place_fault : Item → Option SetFault
place_fault (One a) = if is_within 1 31 a then None else Some OutOfRange
place_fault (Onward a step) = if is_within 1 31 a then step_fault step else Some OutOfRange
place_fault (Range a b step) = if is_within 1 31 a && is_within 1 31 b then step_fault step else Some OutOfRange

-- the error of the first item that has one
abbrev pub first_place_fault : List Item → Option SetFault
first_place_fault [] = None
first_place_fault (item ∷ items) = fault_or (place_fault item) (first_place_fault items)

-- whether the day at a place from the month's end belongs to one of the items
abbrev pub is_listed_place : List Item → ℕ → Bool
is_listed_place items p = list_any (λ item. place_belongs item p) items

-- the places from 1 to 31 that belong to an item, unless an item is invalid
unfoldable pub places_reading : List Item → Result SetOfValues SetFault
places_reading items = values_or_fault (values_where 1 31 (is_listed_place items)) (first_place_fault items)

-- the set of values of a component's items
abbrev pub component_set : Component → List Item → Result SetOfValues SetFault
component_set Place items = places_reading items
component_set component items = set_reading items (least_of component) (greatest_of component)

-- the values of a component
unfoldable pub component_reading : Component → List ℕ → Reading SetOfValues
component_reading component text = values_by (component_part component) (component_set component) (component_items component text)

-- the names of the weekdays, from 0 for Monday (systemd.time(7))
abbrev pub weekday_names : List (List ℕ)
weekday_names =
    codes "monday" ∷ codes "tuesday" ∷ codes "wednesday" ∷ codes "thursday" ∷ codes "friday" ∷ codes "saturday"
    ∷ codes "sunday" ∷ []

-- a weekday is named in full or by its first three letters, in any case (systemd.time(7))
abbrev pub names_weekday : List ℕ → List ℕ → Bool
names_weekday name full = str_eq_ignore_ascii_case name full || str_eq_ignore_ascii_case name (take 3 full)

-- the weekday of a name, from 0 for Monday
unfoldable pub weekday_of : List ℕ → Option ℕ
weekday_of name = position (names_weekday name) weekday_names

-- a name in the weekday part; which error it is: (agenda)
unfoldable pub weekday_reading : List ℕ → Reading ℕ
weekday_reading name =
    if length name == 0 then rejected 1 WrongParts else ok_or (weekday_of name) (record { part = 1; cause = BadName })

-- one weekday, or the weekdays from one to another (systemd.time(7))
abbrev pub weekday_span : List ℕ → Option (List ℕ × List ℕ) → Reading Item
weekday_span text None = do
  day ← weekday_reading text
  Ok (One day)
weekday_span text (Some ends) = do
  first ← weekday_reading (ends.0)
  last ← weekday_reading (ends.1)
  Ok (Range first last 1)

-- a name, or two names with the first `..` between them (systemd.time(7))
unfoldable pub weekday_item : List ℕ → Reading Item
weekday_item text = weekday_span text (cut_at (codes "..") text)

-- a text without the comma at its end; one such comma is allowed after weekdays (agenda)
abbrev pub without_comma : List ℕ → List ℕ
without_comma text = if bytes_eq (drop (length text - 1) text) (codes ",") then take (length text - 1) text else text

-- the items of the weekday part: they are separated by commas
unfoldable pub weekday_items : List ℕ → Reading (List Item)
weekday_items text = each weekday_item (pieces (byte ",") (without_comma text))

-- the weekdays of the weekday part, from 0 for Monday to 6 for Sunday; a range must not run past the end of the week (agenda)
unfoldable pub weekdays_reading : List ℕ → Reading SetOfValues
weekdays_reading text = values_by 1 (λ items. set_reading items 0 6) (weekday_items text)

-- the weekdays, if there is a weekday part
abbrev pub weekdays_if_given : Option (List ℕ) → Reading (Option SetOfValues)
weekdays_if_given None = Ok None
weekdays_if_given (Some text) = do
  weekdays ← weekdays_reading text
  Ok (Some weekdays)

-- the component that reads the days: they count from the start or from the end of the month
abbrev pub day_component : DayCount → Component
day_component FromStart = Day
day_component FromEnd = Place

-- the event of a shape, whose parts are read in this order (agenda)
unfoldable pub event_of : ShapeText → Reading Calendar
event_of shape = do
  weekdays ← weekdays_if_given shape.weekdays
  years ← component_reading Year shape.date.year
  months ← component_reading Month shape.date.month
  days ← component_reading (day_component shape.date.count) shape.date.day
  hours ← component_reading Hour shape.time.hour
  minutes ← component_reading Minute shape.time.minute
  seconds ← component_reading Second shape.time.second
  Ok
      (record {
        years = years;
        months = months;
        days = days;
        day_count = shape.date.count;
        hours = hours;
        minutes = minutes;
        seconds = seconds;
        weekdays = weekdays;
        names_zone = false;
        clock = [];
      })

-- an event that is spelled out: its shape, then its components
unfoldable pub spelled_out : List (List ℕ) → Reading Calendar
spelled_out texts = do
  shape ← shape_reading texts
  event_of shape

-- the last word
abbrev pub last_word : List (List ℕ) → List ℕ
last_word texts = slice_index_or texts (length texts - 1) []

-- the last word is the zone if it isn't the first and begins with a letter (agenda)
abbrev pub has_zone : List (List ℕ) → Bool
has_zone texts = nat_lt 1 (length texts) && begins_with is_ascii_alphabetic (last_word texts)

-- the words without the zone, and the zone, if the last word is one (systemd.time(7))
unfoldable pub zone_cut : List (List ℕ) → List (List ℕ) × Option (List ℕ)
zone_cut texts = if has_zone texts then (take (length texts - 1) texts, Some (last_word texts)) else (texts, None)

-- the words without the zone
abbrev pub without_zone : List (List ℕ) → List (List ℕ)
without_zone texts = (zone_cut texts).0

-- the name by which the zone of an event is looked up, if the event's text ends with a zone other than UTC
abbrev pub zone_name : List ℕ → Option (List ℕ)
zone_name text = option_and_then name_in_database ((zone_cut (words text)).1)

-- the words that abbreviate an event, each with its expression (systemd.time(7))
abbrev pub event_words : List (List ℕ × List ℕ)
event_words =
    (codes "minutely", codes "*-*-* *:*:00")
    ∷ (codes "hourly", codes "*-*-* *:00:00")
    ∷ (codes "daily", codes "*-*-* 00:00:00")
    ∷ (codes "weekly", codes "Mon *-*-* 00:00:00")
    ∷ (codes "monthly", codes "*-*-01 00:00:00")
    ∷ (codes "quarterly", codes "*-01,04,07,10-01 00:00:00")
    ∷ (codes "semiannually", codes "*-01,07-01 00:00:00")
    ∷ (codes "yearly", codes "*-01-01 00:00:00")
    ∷ (codes "annually", codes "*-01-01 00:00:00")
    ∷ []

-- the expression that a word abbreviates, in any case of its letters (the case: (agenda))
unfoldable pub expression_of : List ℕ → Option (List ℕ)
expression_of word =
    option_map (λ known. known.1) (find (λ known. str_eq_ignore_ascii_case word known.0) event_words)

-- a word that has only letters and isn't a weekday's name (agenda)
abbrev pub is_unknown_word : List ℕ → Bool
is_unknown_word word = list_all is_ascii_alphabetic word && not (is_some (weekday_of word))

-- a single word: the expression that it abbreviates, or else an event that it spells out
abbrev pub lone_word : List ℕ → Option (List ℕ) → Reading Calendar
lone_word word (Some expression) = spelled_out (words expression)
lone_word word None = if is_unknown_word word then rejected 0 UnknownWord else spelled_out (word ∷ [])

-- the event of words without a zone
unfoldable pub zoneless : List (List ℕ) → Reading Calendar
zoneless [] = spelled_out []
zoneless (word ∷ []) = lone_word word (expression_of word)
zoneless (first ∷ second ∷ others) = spelled_out (first ∷ second ∷ others)

-- an event that names its own zone has the clock of that zone (systemd.time(7))
abbrev pub in_own_zone : List Change → Calendar → Calendar
in_own_zone clock event = record event { names_zone = true; clock = clock }

-- the event of words without their zone; the zone is read first (agenda)
abbrev pub cut_reading : Zones → List (List ℕ) → Option (List ℕ) → Reading Calendar
cut_reading zones texts None = zoneless texts
cut_reading zones texts (Some zone) = do
  clock ← zone_clock zones zone
  event ← zoneless texts
  Ok (in_own_zone clock event)

-- the event of a text's words
unfoldable pub words_reading : Zones → List (List ℕ) → Reading Calendar
words_reading zones texts = let cut = zone_cut texts in cut_reading zones (cut.0) (cut.1)

-- a specifier begins with `%` (systemd.unit(5), specifiers)
abbrev pub has_specifier : List ℕ → Bool
has_specifier text = holds_byte (byte "%") text

-- the meaning of a text, which may name these zones; a specifier anywhere is rejected, since none is known (agenda)
abbrev pub event_reading : Zones → List ℕ → Reading Calendar
event_reading zones text = if has_specifier text then rejected 0 Specifier else words_reading zones (words text)

-- the rule of this one event
abbrev pub event_rule_reading : Zones → List ℕ → Reading Rule
event_rule_reading zones text = do
  event ← event_reading zones text
  Ok (Events (event ∷ []))
