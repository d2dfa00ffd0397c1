-- Whether systemd 252 may stop for good at an event in a zone with summer time, and what to write instead. It carries a step
-- without an end past the limit of its component, to a time that the zone's clock may show as another one (measured).
use Rattle.std.specs.Prelude.{ℕ, ◌+◌, ◌-◌, ◌%◌, Bool, not, ◌&&◌, ◌==◌, if◌then◌else◌, List, [], ◌++◌, codes, flat_map, find, position, slice_index_or, unwrap_or, Option, None, Ok, Err}
use Rattle.std.specs.Fmt.{decimal}
use Rattle.std.specs.List.{list_any, range_with_len}
use Rattle.std.specs.Option.{option_map, option_or}
use Rattle.std.specs.Str.{byte}
use Rattle.plan_sets.specs.declared.item.Item.{Item}
use Rattle.plan_sets.specs.declared.item.Item.TheVariants.{One, Onward, Range}
use Rattle.plan_sets.specs.Items.{belongs}
use Rattle.plan_match.specs.declared.event.Calendar.{Calendar}
use Rattle.plan_match.specs.declared.event.DayCount.{DayCount}
use Rattle.plan_match.specs.declared.event.DayCount.TheVariants.{FromStart, FromEnd}
use Rattle.plan_grammar.specs.EventItems.{Elements, ItemLists, event_items_reading}
use Rattle.plan_grammar.specs.Readings.{Reading}
use Rattle.plan_texts.specs.Text.{pieces}
use Rattle.plan_systemd.specs.declared.may_stop.Limit.{Limit}
use Rattle.plan_systemd.specs.declared.may_stop.Limit.TheVariants.{Value, LastDay, FirstDay}
use Rattle.plan_systemd.specs.Flaws.{instead}
use Rattle.plan_systemd.specs.Skipped.{event_skips, is_open}

-- ---- an element

-- an open step doesn't go on from this limit by one: its least number above the limit is a later one (measured)
abbrev pub stops_above : Item → ℕ → Bool
stops_above item hi = is_open item && not (belongs item (hi + 1))

-- systemd may stop at an element: by the limit of its component, which for days is that of some month, and after `~` whatever
-- the step is (measured)
abbrev pub stops_at : Limit → Item → Bool
stops_at (Value hi) item = stops_above item hi
stops_at LastDay item = list_any (stops_above item) (range_with_len 28 4)
stops_at FirstDay item = is_open item

-- ---- what to write instead

-- a value after the first of an open step, if it is one
abbrev pub later_value : (a step v : ℕ) → List ℕ
later_value a step v = if (v - a) % step == 0 then codes "," ++ decimal v else []

-- the values of an open step up to a limit, such as `1,6,11`
abbrev pub values_text : (a step hi : ℕ) → List ℕ
values_text a step hi = decimal a ++ flat_map (later_value a step) (range_with_len (a + 1) (hi - a))

-- the range of the same days, counted from the end of the month: systemd rejects long lists of them
abbrev pub places_text : (a step : ℕ) → List ℕ
places_text a step = decimal ((a - 1) % step + 1) ++ (codes ".." ++ (decimal a ++ (codes "/" ++ decimal step)))

-- an element with the same values and an end
abbrev pub closed_text : Limit → Item → List ℕ
closed_text (Value hi) (Onward a step) = values_text a step hi
closed_text LastDay (Onward a step) = values_text a step 31
closed_text FirstDay (Onward a step) = places_text a step
closed_text limit (One a) = []
closed_text limit (Range a b step) = []

-- what to write for an element
abbrev pub closing_hint : Limit → Item → (text : List ℕ) → List ℕ
closing_hint limit item text = instead (closed_text limit item) text

-- ---- an event

-- the text of the first element of a component at which systemd may stop
abbrev pub first_text : Limit → Elements → List ℕ
first_text limit elements =
    slice_index_or (pieces (byte ",") elements.text) (unwrap_or (position (stops_at limit) elements.items) 0) []

-- the hint for that element
abbrev pub component_stop : Limit → Elements → Option (List ℕ)
component_stop limit elements =
    option_map (λ item. closing_hint limit item (first_text limit elements)) (find (stops_at limit) elements.items)

-- the limit of the days
abbrev pub day_limit : DayCount → Limit
day_limit FromStart = LastDay
day_limit FromEnd = FirstDay

-- the hint for the first element of all components that are smaller than a year, in the order of the text (agenda)
abbrev pub items_stop : ItemLists → Option (List ℕ)
items_stop items =
    option_or (component_stop (Value 12) items.months)
    (option_or (component_stop (day_limit items.count) items.days)
    (option_or (component_stop (Value 23) items.hours)
    (option_or (component_stop (Value 59) items.minutes) (component_stop (Value 59) items.seconds))))

-- the same, unless systemd may skip starts of the event, which has a warning of its own (agenda)
abbrev pub event_stop : Calendar → ItemLists → Option (List ℕ)
event_stop event items = if event_skips event items then None else items_stop items

-- the same, by the elements of the event's text
abbrev pub stops_by : Calendar → Reading ItemLists → Option (List ℕ)
stops_by event (Ok items) = event_stop event items
stops_by event (Err fault) = None

-- the hint for an event with this text, if systemd 252 may stop for good at it in a zone with summer time
abbrev pub may_stop : (text : List ℕ) → Calendar → Option (List ℕ)
may_stop text event = stops_by event (event_items_reading text)
