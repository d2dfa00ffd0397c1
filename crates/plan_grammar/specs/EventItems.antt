-- The elements of a calendar event's components (systemd.time(7)), for what depends on how the values are written.
use Rattle.std.specs.Prelude.{ℕ, List, Ok}
use Rattle.plan_sets.specs.declared.item.Item.{Item}
use Rattle.plan_texts.specs.Text.{words}
use Rattle.plan_texts.specs.Steps.{◌>>=◌}
use Rattle.plan_match.specs.declared.event.DayCount.{DayCount}
use Rattle.plan_grammar.specs.declared.component.Component.{Component}
use Rattle.plan_grammar.specs.declared.component.Component.TheVariants.{Year, Month, Hour, Minute, Second}
use Rattle.plan_grammar.specs.declared.items.ComponentElements.{ComponentElements}
use Rattle.plan_grammar.specs.declared.items.EventItems.{EventItems}
use Rattle.plan_grammar.specs.Readings.{Reading}
use Rattle.plan_grammar.specs.Shape.{ShapeText, shape_reading}
use Rattle.plan_grammar.specs.Event.{component_items, day_component, without_zone}

-- a component as it is written, and its elements in the order of the text
pub record Elements : Type 0 where
  pub text : List ℕ
  pub items : List Item

-- the elements of all components; the days count from the start or from the end of the month
pub record ItemLists : Type 0 where
  pub years : Elements
  pub months : Elements
  pub days : Elements
  pub count : DayCount
  pub hours : Elements
  pub minutes : Elements
  pub seconds : Elements

-- a component and its elements, as the code keeps them
abbrev pub elements_of : ComponentElements → Elements
elements_of elements = record { text = elements.text.now; items = elements.items.items }

-- the same of all components
abbrev pub item_lists : EventItems → ItemLists
item_lists items = record {
  years = elements_of items.years;
  months = elements_of items.months;
  days = elements_of items.days;
  count = items.count;
  hours = elements_of items.hours;
  minutes = elements_of items.minutes;
  seconds = elements_of items.seconds;
}

-- a component's text with its elements
unfoldable pub component_elements : Component → List ℕ → Reading Elements
component_elements component text = do
  items ← component_items component text
  Ok (record { text = text; items = items })

-- the elements of a shape
unfoldable pub items_of : ShapeText → Reading ItemLists
items_of shape = do
  years ← component_elements Year shape.date.year
  months ← component_elements Month shape.date.month
  days ← component_elements (day_component shape.date.count) shape.date.day
  hours ← component_elements Hour shape.time.hour
  minutes ← component_elements Minute shape.time.minute
  seconds ← component_elements Second shape.time.second
  Ok
      (record {
        years = years;
        months = months;
        days = days;
        count = shape.date.count;
        hours = hours;
        minutes = minutes;
        seconds = seconds;
      })

-- the elements of an event's text, whatever its zone is; a word such as `daily` counts as a weekday part here, since its expression has no
-- step (agenda)
unfoldable pub event_items_reading : List ℕ → Reading ItemLists
event_items_reading text = do
  shape ← shape_reading (without_zone (words text))
  items_of shape
