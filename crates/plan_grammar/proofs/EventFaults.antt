-- The reading of an event's words never has the error that an allocation failed or that there is a specifier: no
-- definition gives such an error.
-- `all_words` is for the clauses `memory` and `specifier` of `calendar_event`. There is one lemma for each definition
-- in the reading of an event, from a component's number up, which it unfolds; TextFaults puts the parts together.
use Rattle.std.proofs.Common.{ℕ, ◌||◌, not, List, codes, Option, Some, None, arith}
use Rattle.std.proofs.lemmas.Bool.Decides.{nat_tests}
use Rattle.plan_grammar.specs.declared.element.Side.{Side}
use Rattle.plan_grammar.specs.declared.component.Component.{Component}
use Rattle.plan_grammar.specs.declared.component.Component.TheVariants.{Year, Month, Hour, Minute, Second}
use Rattle.plan_texts.specs.Text.{pieces, cut_at}
use Rattle.plan_grammar.specs.Shape.{ShapeText, cut_date, date_reading, time_of_pieces, time_reading, is_time, one_word, two_words, dated, shape_reading}
use Rattle.plan_grammar.specs.Event.{component_part, component_number, component_value, component_side, component_item_of, component_item, component_items, component_set, component_reading, weekday_reading, weekday_span, weekday_item, without_comma, weekday_items, weekdays_reading, weekdays_if_given, day_component, event_of, spelled_out, zone_cut, lone_word, zoneless, cut_reading, words_reading}
use Rattle.plan_grammar.specs.EventZones.{Zones, zone_clock}
use Rattle.plan_texts.specs.EachLaws.{err_steps, err_each, err_choice}
use Rattle.plan_grammar.proofs.TextFaults.{IsTextFault, or_fault, side_of, cut_item, list_values}

-- a component's number
digits : (component : Component) (text : List ℕ) → IsTextFault (component_number component text)
unfolding component_number
digits component text = grind (arith, nat_tests)

value : (component : Component) (text : List ℕ) → IsTextFault (component_value component text)
unfolding component_value
value component text = grind (arith, nat_tests, digits)

side : (component : Component) (text : List ℕ) → IsTextFault (component_side component text)
unfolding component_side
side component text = side_of (component_value component) (value component) (codes "..") text

item_form : (component : Component) (left : Side) (n : Option ℕ) → IsTextFault (component_item_of component left n)
item_form component left n = grind (arith, nat_tests)

item : (component : Component) (text : List ℕ) → IsTextFault (component_item component text)
unfolding component_item
item component text =
    cut_item (component_side component) (component_number component) (component_item_of component) (side component)
    (digits component) (item_form component) text (cut_at (codes "/") text)

items : (component : Component) (text : List ℕ) → IsTextFault (component_items component text)
unfolding component_items
items component text = err_each _ (component_item component) (item component) (pieces 44 text)

values : (component : Component) (text : List ℕ) → IsTextFault (component_reading component text)
unfolding component_reading
values component text = list_values (component_part component) (component_set component) (component_items component text)
    (items component text)

weekday : (name : List ℕ) → IsTextFault (weekday_reading name)
unfolding weekday_reading
weekday name = grind (arith, nat_tests)

weekday_form : (text : List ℕ) (cut : Option (List ℕ × List ℕ)) → IsTextFault (weekday_span text cut)
weekday_form text None = err_steps _ (weekday_reading text) _ (weekday text) (λ a. tt)
weekday_form text (Some ends) =
    err_steps _ (weekday_reading ends.0) _ (weekday ends.0) (λ a. err_steps _ (weekday_reading ends.1) _ (weekday ends.1) (λ b. tt))

weekday_element : (text : List ℕ) → IsTextFault (weekday_item text)
unfolding weekday_item
weekday_element text = weekday_form text (cut_at (codes "..") text)

weekday_list : (text : List ℕ) → IsTextFault (weekday_items text)
unfolding weekday_items
weekday_list text = err_each _ weekday_item weekday_element (pieces 44 (without_comma text))

weekdays : (text : List ℕ) → IsTextFault (weekdays_reading text)
unfolding weekdays_reading
weekdays text = list_values 1 _ (weekday_items text) (weekday_list text)

maybe_weekdays : (text : Option (List ℕ)) → IsTextFault (weekdays_if_given text)
maybe_weekdays None = tt
maybe_weekdays (Some text) = grind (arith, nat_tests, weekdays text)

cut_day : (text : List ℕ) (cut : Option (List ℕ × List ℕ)) → IsTextFault (cut_date text cut)
cut_day text cut = grind (arith, nat_tests)

date : (text : List ℕ) → IsTextFault (date_reading text)
unfolding date_reading
date text = cut_day text (cut_at (codes "~") text)

time_pieces : (texts : List (List ℕ)) → IsTextFault (time_of_pieces texts)
time_pieces texts = grind (arith, nat_tests)

time : (text : List ℕ) → IsTextFault (time_reading text)
unfolding time_reading
time text = time_pieces (pieces 58 text)

one : (given : Option (List ℕ)) (word : List ℕ) → IsTextFault (one_word given word)
one given word =
    err_choice _ (is_time word) _ _ (err_steps _ (time_reading word) _ (time word) (λ t. tt))
    (err_steps _ (date_reading word) _ (date word) (λ d. tt))

two : (given : Option (List ℕ)) (first second : List ℕ) → IsTextFault (two_words given first second)
two given first second =
    err_choice _ (is_time first || not (is_time second)) _ _ tt
    (err_steps _ (date_reading first) _ (date first) (λ d. err_steps _ (time_reading second) _ (time second) (λ t. tt)))

after_weekdays : (given : Option (List ℕ)) (texts : List (List ℕ)) → IsTextFault (dated given texts)
unfolding dated
after_weekdays given texts = grind (arith, nat_tests, one, two)

shape : (texts : List (List ℕ)) → IsTextFault (shape_reading texts)
unfolding shape_reading
shape texts = grind (arith, nat_tests, after_weekdays)

parts : (form : ShapeText) → IsTextFault (event_of form)
unfolding event_of
parts form =
    err_steps _ (weekdays_if_given form.weekdays) _ (maybe_weekdays form.weekdays)
    (λ a. err_steps _ (component_reading Year form.date.year) _ (values Year form.date.year)
    (λ b. err_steps _ (component_reading Month form.date.month) _ (values Month form.date.month)
    (λ c. err_steps _ (component_reading (day_component form.date.count) form.date.day) _
    (values (day_component form.date.count) form.date.day)
    (λ d. err_steps _ (component_reading Hour form.time.hour) _ (values Hour form.time.hour)
    (λ e. err_steps _ (component_reading Minute form.time.minute) _ (values Minute form.time.minute)
    (λ f. err_steps _ (component_reading Second form.time.second) _ (values Second form.time.second) (λ g. tt)))))))

spelled : (texts : List (List ℕ)) → IsTextFault (spelled_out texts)
unfolding spelled_out
spelled texts = err_steps _ (shape_reading texts) _ (shape texts) parts

zone : (zones : Zones) (name : List ℕ) → IsTextFault (zone_clock zones name)
unfolding zone_clock
zone zones name = grind (arith, nat_tests, or_fault)

lone : (word : List ℕ) (expression : Option (List ℕ)) → IsTextFault (lone_word word expression)
lone word expression = grind (arith, nat_tests, spelled)

no_zone : (texts : List (List ℕ)) → IsTextFault (zoneless texts)
unfolding zoneless
no_zone texts = grind (arith, nat_tests, spelled, lone)

cut_words : (zones : Zones) (texts : List (List ℕ)) (zone : Option (List ℕ)) → IsTextFault (cut_reading zones texts zone)
cut_words zones texts None = no_zone texts
cut_words zones texts (Some name) =
    err_steps _ (zone_clock zones name) _ (zone zones name) (λ clock. err_steps _ (zoneless texts) _ (no_zone texts) (λ event. tt))

-- the error of an event's words has a cause that words may have
pub all_words : (zones : Zones) (texts : List (List ℕ)) → IsTextFault (words_reading zones texts)
unfolding words_reading
all_words zones texts = cut_words zones (zone_cut texts).0 (zone_cut texts).1
