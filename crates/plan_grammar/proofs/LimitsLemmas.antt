-- The sets of a rule that was read have values, all within the limits of their fields.
-- For clause `within` of `cron_rule` and `calendar_event`. A set has those values of its span that pass a test
-- (`span`), so it is within the span, and the first item has a value; `ok_steps` carries that through each definition of
-- a reading.
use Rattle.std.proofs.Common.{◌≡◌, ℕ, ◌+◌, ◌-◌, ◌*◌, ◌%◌, ◌<◌, ◌≤◌, Bool, true, false, ◌&&◌, ◌==◌, nat_le, nat_lt, max, min, if◌then◌else◌, List, [], ◌∷◌, length, Option, Some, None, Result, IfOk, IfSome, refl, ap, arith, subst, sym, inl, inr, ◌∙◌}
use Rattle.std.proofs.lemmas.Bool.Decides.{nat_tests}
use Rattle.std.specs.Int.{IsInRange}
use Rattle.std.specs.List.{list_any}
use Rattle.std.proofs.lemmas.Bool.{and_from, and_parts, cases_lt, or_left, or_right}
use Rattle.std.proofs.lemmas.List.Splits.{length-slice_split}
use Rattle.std.proofs.Math.Nat.{mul-mod_left}
use Rattle.std.specs.Str.{byte}
use Rattle.plan_sets.specs.declared.item.Item.{Item}
use Rattle.plan_sets.specs.declared.item.SetFault.{SetFault}
use Rattle.plan_sets.specs.declared.item.Item.TheVariants.{One, Onward, Range}
use Rattle.plan_sets.specs.declared.item.SetFault.TheVariants.{OutOfRange, Backwards, ZeroStep}
use Rattle.plan_sets.specs.Items.{belongs, fault_or, first_fault, is_step, is_within, item_fault, items_fault, held_values, values_or_fault, set_reading}
use Rattle.plan_sets.specs.Limits.{first_year, last_year}
use Rattle.plan_sets.specs.Values.{Values as SetOfValues, has_value, is_among, values_where}
use Rattle.plan_sets.specs.ValuesLaws.{has_value-values_where}
use Rattle.plan_grammar.specs.declared.fault.RuleFault.{RuleFault}
use Rattle.plan_texts.specs.EachLaws.{ok_steps, ok_choice}
use Rattle.plan_texts.specs.Steps.{◌>>=◌, each}
use Rattle.plan_grammar.specs.Readings.{Reading, Gives}
use Rattle.plan_grammar.specs.Elements.{set_in_part, values_by}
use Rattle.plan_texts.specs.Text.{pieces, words}
use Rattle.plan_texts.specs.WholeLines.{trimmed}
use Rattle.plan_clock.specs.declared.row.Change.{Change}
use Rattle.plan_match.specs.declared.event.Calendar.{Calendar}
use Rattle.plan_match.specs.declared.event.DayCount.{DayCount}
use Rattle.plan_match.specs.declared.event.DayCount.TheVariants.{FromStart, FromEnd}
use Rattle.plan_match.specs.WithinLimits.{LieWithin, EventIsWithinLimits, RuleIsWithinLimits}
use Rattle.plan_grammar.specs.declared.field.Field.{Field}
use Rattle.plan_grammar.specs.declared.field.Field.TheVariants.{Minute, Hour, MonthDay, Month, WeekDay}
use Rattle.plan_grammar.specs.declared.component.Component.{Component}
use Rattle.plan_grammar.specs.declared.component.Component.TheVariants as component
use Rattle.plan_grammar.specs.Cron.{lowest, highest, items_reading, field_reading, has_week_day, week_days_of, five_fields, fields_alone, at_word, found_reading, at_reading, rule_reading, cron_reading}
use Rattle.plan_grammar.specs.Shape.{ShapeText, shape_reading}
use Rattle.plan_grammar.specs.EventZones.{Zones, zone_clock}
use Rattle.plan_grammar.specs.Event.{component_item, component_items, component_set, component_reading, first_place_fault, is_listed_place, place_belongs, place_fault, places_reading, step_fault, weekday_items, weekdays_reading, weekdays_if_given, day_component, event_of, spelled_out, zone_cut, lone_word, zoneless, in_own_zone, cut_reading, words_reading, has_specifier, event_reading}

-- ---- readings

any_value : {A : Type 0} (r : Reading A) → IfOk r (λ x. Unit {0})
any_value r = grind (arith, nat_tests)

any_then : {A B : Type 0} (P : B → Type 0) (r : Reading A) (next : A → Reading B) → ((x : A) → IfOk (next x) P) → IfOk (r >>= next) P
any_then P r next later = ok_steps (λ x. Unit {0}) P r next (any_value r) (λ x any. later x)

-- if a call's result is this reading, what holds for the reading holds for the result
pub answered :
    {A : Type 0} (P : A → Type 0) (answer : Result A RuleFault) (reading : Reading A) → Gives answer reading → IfOk reading P →
    IfOk answer P
answered P answer reading given given₂ = grind (arith, nat_tests)

-- ---- sets

among : (first count last v : ℕ) → last + 1 ≡ first + count → is_among first count v ≡ true → IsInRange first last v
among first count last v ends is = (grind (arith, nat_tests), grind (arith, nat_tests))

is_one : (first count last v : ℕ) → last + 1 ≡ first + count → IsInRange first last v → is_among first count v ≡ true
is_one first count last v ends (low, high) = grind (arith, nat_tests)

-- the values that pass a test are within their span, and there is one if one of the span passes
span :
    (first count last : ℕ) (test : ℕ → Bool) → last + 1 ≡ first + count → (v : ℕ) × (IsInRange first last v × (test v ≡ true)) →
    LieWithin first last (values_where first count test)
span first count last test ends (v, (range, passes)) = record {
  within = λ u has.
      among first count last u ends (and_parts (is_among first count u) (test u) (sym (has_value-values_where first count test u) ∙ has)).0;
  value =
      (v, has_value-values_where first count test v ∙ and_from (is_among first count v) (test v) (is_one first count last v ends range) passes);
}

unless_fault :
    (P : SetOfValues → Type 0) (values : SetOfValues) (fault : Option SetFault) → (fault ≡ None → P values) → IfOk (values_or_fault values fault) P
unless_fault P values None given = given refl
unless_fault P values (Some fault) given = tt

no_fault : (a b : Option SetFault) → fault_or a b ≡ None → a ≡ None
no_fault None b is = refl
no_fault (Some fault) b is = absurd (cc)

range_of : (first last v : ℕ) → is_within first last v ≡ true → IsInRange first last v
range_of first last v is = (grind (arith, nat_tests), grind (arith, nat_tests))

at_start : (a step : ℕ) → (nat_le a a && ((a - a) % step == 0)) ≡ true
at_start a step = let none : a - a ≡ 0 * step = omega arith in by_rest a ((a - a) % step) (ap (λ x. x % step) none ∙ mul-mod_left 0 step)
  where
    by_rest : (a m : ℕ) → m ≡ 0 → (nat_le a a && (m == 0)) ≡ true
    by_rest a m none = grind (arith, nat_tests)

same_test : (a : ℕ) → (a == a) ≡ true
same_test a = grind (arith, nat_tests)

-- an item without an error has its first number
item_value : (first last : ℕ) (item : Item) → item_fault first last item ≡ None → (v : ℕ) × (IsInRange first last v × (belongs item v ≡ true))
item_value first last (One a) none = go (is_within first last a) refl none
  where
    go :
        (b : Bool) → is_within first last a ≡ b → (if b then None else Some OutOfRange) ≡ None →
        (v : ℕ) × (IsInRange first last v × ((v == a) ≡ true))
    go true within none = (a, (range_of first last a within, same_test a))
    go false within none = absurd (cc)
item_value first last (Onward a step) none = go (is_within first last a) refl none
  where
    go :
        (b : Bool) → is_within first last a ≡ b → (if b then (if step == 0 then Some ZeroStep else None) else Some OutOfRange) ≡ None →
        (v : ℕ) × (IsInRange first last v × ((nat_le a v && ((v - a) % step == 0)) ≡ true))
    go true within none = (a, (range_of first last a within, at_start a step))
    go false within none = absurd (cc)
item_value first last (Range a b step) none = go (is_within first last a && is_within first last b) refl none
  where
    forwards :
        (c : Bool) → is_within first last a ≡ true → nat_lt b a ≡ c → (if c then Some Backwards else (if step == 0 then Some ZeroStep else None)) ≡ None →
        (v : ℕ) × (IsInRange first last v × (is_step a b step v ≡ true))
    forwards true within order none = absurd (cc)
    forwards false within order none =
        (a, (range_of first last a within, ordered a b ((a - a) % step == 0) order (at_start a step)))
      where
        ordered : (a b : ℕ) (t : Bool) → nat_lt b a ≡ false → (nat_le a a && t) ≡ true → (nat_le a a && (nat_le a b && t)) ≡ true
        ordered a b t order is = grind (arith, nat_tests)

    go :
        (c : Bool) → (is_within first last a && is_within first last b) ≡ c →
        (if c then (if nat_lt b a then Some Backwards else (if step == 0 then Some ZeroStep else None)) else Some OutOfRange) ≡ None →
        (v : ℕ) × (IsInRange first last v × (is_step a b step v ≡ true))
    go true within none = forwards (nat_lt b a) (and_parts (is_within first last a) (is_within first last b) within).0 refl none
    go false within none = absurd (cc)

-- items without an error have a value
items_value :
    (first last : ℕ) (items : List Item) → items_fault first last items ≡ None →
    (v : ℕ) × (IsInRange first last v × (list_any (λ item. belongs item v) items ≡ true))
items_value first last [] none = absurd (cc)
items_value first last (item ∷ items) none =
    let found = item_value first last item (no_fault (item_fault first last item) (first_fault first last items) none) in
    (found.0, (found.1.0, or_left (belongs item found.0) (list_any (λ more. belongs more found.0) items) found.1.1))

-- the values of items are within their limits
items_within :
    (items : List Item) (first last count : ℕ) → last + 1 - first ≡ count → last + 1 ≡ first + count →
    IfOk (set_reading items first last) (LieWithin first last)
unfolding set_reading
items_within items first last count counted ends =
    unless_fault (LieWithin first last) (held_values items first last) (items_fault first last items)
    (λ none. let P : ℕ → Type 0 = λ n. LieWithin first last (values_where first n (λ v. list_any (λ item. belongs item v) items)) in
    subst P (sym counted) (span first count last (λ v. list_any (λ item. belongs item v) items) ends (items_value first last items none)))

in_part : (P : SetOfValues → Type 0) (part : ℕ) (r : Result SetOfValues SetFault) → IfOk r P → IfOk (set_in_part part r) P
in_part P part r given = grind (arith, nat_tests)

list_within :
    (P : SetOfValues → Type 0) (part : ℕ) (set : List Item → Result SetOfValues SetFault) (forms : Reading (List Item)) →
    ((items : List Item) → IfOk (set items) P) → IfOk (values_by part set forms) P
list_within P part set forms own = any_then P forms (λ items. set_in_part part (set items)) (λ items. in_part P part (set items) (own items))

-- ---- cron rules

field_within : (field : Field) (text : List ℕ) → IfOk (field_reading field text) (LieWithin (lowest field) (highest field))
unfolding field_reading
field_within Minute text = list_within _ 1 (λ items. set_reading items 0 59) (items_reading Minute text)
    (λ items. items_within items 0 59 60 refl refl)
field_within Hour text = list_within _ 2 (λ items. set_reading items 0 23) (items_reading Hour text)
    (λ items. items_within items 0 23 24 refl refl)
field_within MonthDay text = list_within _ 3 (λ items. set_reading items 1 31) (items_reading MonthDay text)
    (λ items. items_within items 1 31 31 refl refl)
field_within Month text = list_within _ 4 (λ items. set_reading items 1 12) (items_reading Month text)
    (λ items. items_within items 1 12 12 refl refl)
field_within WeekDay text = list_within _ 5 (λ items. set_reading items 0 7) (items_reading WeekDay text)
    (λ items. items_within items 0 7 8 refl refl)

-- a value of the written days gives a day of the week
week_day_value : (written : SetOfValues) → LieWithin 0 7 written → (v : ℕ) × (IsInRange 0 6 v × (has_week_day written v ≡ true))
week_day_value written own =
    elim (cases_lt own.value.0 7) [
      | inl less ↦
          (own.value.0, ((omega arith, omega arith), or_left (has_value written own.value.0) ((own.value.0 == 0) && has_value written 7) own.value.1))
      | inr over ↦
          let high = (own.within own.value.0 own.value.1).1 in
          let seven : own.value.0 ≡ 7 = omega arith in
          (0, ((omega arith, omega arith), or_right (has_value written 0) ((0 == 0) && has_value written 7) (ap (has_value written) (sym seven) ∙ own.value.1)))
    ]

week_days_within : (written : SetOfValues) → LieWithin 0 7 written → LieWithin 0 6 (week_days_of written)
unfolding week_days_of
week_days_within written own = span 0 7 6 (has_week_day written) refl (week_day_value written own)

fields : (texts : List (List ℕ)) → IfOk (five_fields texts) RuleIsWithinLimits
unfolding five_fields
fields (a ∷ b ∷ c ∷ d ∷ e ∷ []) = ok_steps (LieWithin 0 59) RuleIsWithinLimits (field_reading Minute a) _ (field_within Minute a)
    (λ minutes in_minutes. ok_steps (LieWithin 0 23) RuleIsWithinLimits (field_reading Hour b) _ (field_within Hour b)
    (λ hours in_hours. ok_steps (LieWithin 1 31) RuleIsWithinLimits (field_reading MonthDay c) _ (field_within MonthDay c)
    (λ month_days in_month_days. ok_steps (LieWithin 1 12) RuleIsWithinLimits (field_reading Month d) _ (field_within Month d)
    (λ months in_months. ok_steps (LieWithin 0 7) RuleIsWithinLimits (field_reading WeekDay e) _ (field_within WeekDay e)
    (λ week_days in_week_days. record {
      minutes = in_minutes;
      hours = in_hours;
      month_days = in_month_days;
      months = in_months;
      week_days = week_days_within week_days in_week_days;
    })))))
fields other = tt

alone : (text : List ℕ) → IfOk (fields_alone text) RuleIsWithinLimits
alone text = grind (arith, nat_tests, fields)

found : (word : Option (Option (List ℕ))) → IfOk (found_reading word) RuleIsWithinLimits
found word = grind (arith, nat_tests, alone)

at : (word : List ℕ) → IfOk (at_reading word) RuleIsWithinLimits
unfolding at_reading
at word = found (at_word word)

-- the sets of a cron rule that was read are within the limits of their fields
pub cron : (text : List ℕ) → IfOk (cron_reading text) RuleIsWithinLimits
unfolding rule_reading
cron text = ok_choice RuleIsWithinLimits _ _ _ (at (trimmed text)) (alone (trimmed text))

-- ---- calendar events

year_within : (text : List ℕ) → IfOk (component_reading component.Year text) (LieWithin first_year last_year)
unfolding component_reading
year_within text = list_within _ 2 (component_set component.Year) (component_items component.Year text)
    (λ items. items_within items first_year last_year (last_year + 1 - first_year) refl refl)

month_within : (text : List ℕ) → IfOk (component_reading component.Month text) (LieWithin 1 12)
unfolding component_reading
month_within text = list_within _ 3 (component_set component.Month) (component_items component.Month text)
    (λ items. items_within items 1 12 12 refl refl)

-- an item of places without an error has its greatest place
place_value : (item : Item) → place_fault item ≡ None → (v : ℕ) × (IsInRange 1 31 v × (place_belongs item v ≡ true))
place_value (One a) none = go (is_within 1 31 a) refl none
  where
    go :
        (b : Bool) → is_within 1 31 a ≡ b → (if b then None else Some OutOfRange) ≡ None →
        (v : ℕ) × (IsInRange 1 31 v × ((v == a) ≡ true))
    go true within none = (a, (range_of 1 31 a within, same_test a))
    go false within none = absurd (cc)
place_value (Onward a step) none = go (is_within 1 31 a) refl none
  where
    go :
        (b : Bool) → is_within 1 31 a ≡ b → (if b then step_fault step else Some OutOfRange) ≡ None →
        (v : ℕ) × (IsInRange 1 31 v × ((nat_le v a && ((a - v) % step == 0)) ≡ true))
    go true within none = (a, (range_of 1 31 a within, at_start a step))
    go false within none = absurd (cc)
place_value (Range a b step) none = go (is_within 1 31 a && is_within 1 31 b) refl none
  where
    greatest : (a b : ℕ) → is_within 1 31 a ≡ true → is_within 1 31 b ≡ true → IsInRange 1 31 (max a b)
    greatest a b a_within b_within = let x = range_of 1 31 a a_within in
        let y = range_of 1 31 b b_within in (omega (arith, x.0, x.1, y.0, y.1), omega (arith, x.0, x.1, y.0, y.1))

    ordered : (low high : ℕ) (t : Bool) → low ≤ high → (nat_le high high && t) ≡ true → (nat_le low high && (nat_le high high && t)) ≡ true
    ordered low high t order is = grind (arith, nat_tests)

    go :
        (c : Bool) → (is_within 1 31 a && is_within 1 31 b) ≡ c → (if c then step_fault step else Some OutOfRange) ≡ None →
        (v : ℕ) × (IsInRange 1 31 v × (place_belongs (Range a b step) v ≡ true))
    go true within none =
        let parts = and_parts (is_within 1 31 a) (is_within 1 31 b) within in
        (max a b, (greatest a b parts.0 parts.1, ordered (min a b) (max a b) ((max a b - max a b) % step == 0) (omega arith) (at_start (max a b) step)))
    go false within none = absurd (cc)

places_value : (items : List Item) → 0 < length items → first_place_fault items ≡ None → (v : ℕ) × (IsInRange 1 31 v × (is_listed_place items v ≡ true))
places_value [] some none = absurd (omega arith)
places_value (item ∷ items) some none =
    let found = place_value item (no_fault (place_fault item) (first_place_fault items) none) in
    (found.0, (found.1.0, or_left (place_belongs item found.0) (is_listed_place items found.0) found.1.1))

places_within : (items : List Item) → 0 < length items → IfOk (places_reading items) (LieWithin 1 31)
unfolding places_reading
places_within items some =
    unless_fault (LieWithin 1 31) (values_where 1 31 (is_listed_place items)) (first_place_fault items)
    (λ none. span 1 31 31 (is_listed_place items) refl (places_value items some none))

-- each item of a list that isn't empty gives one
each_some : {A B : Type 0} (f : A → Reading B) (xs : List A) → 0 < length xs → IfOk (each f xs) (λ ys. 0 < length ys)
each_some f [] some = absurd (omega arith)
each_some f (x ∷ xs) some =
    any_then (λ ys. 0 < length ys) (f x) _ (λ y. any_then (λ ys. 0 < length ys) (each f xs) _ (λ ys. omega arith))

-- a component has an item
some_items : (part : Component) (text : List ℕ) → IfOk (component_items part text) (λ items. 0 < length items)
unfolding component_items
some_items part text =
    each_some (component_item part) (pieces (byte ",") text) (omega (arith, length-slice_split (λ b. b == byte ",") text))

day_within : (count : DayCount) (text : List ℕ) → IfOk (component_reading (day_component count) text) (LieWithin 1 31)
unfolding component_reading
day_within FromStart text = list_within _ 4 (component_set component.Day) (component_items component.Day text)
    (λ items. items_within items 1 31 31 refl refl)
day_within FromEnd text = ok_steps (λ (items : List Item). 0 < length items) (LieWithin 1 31) (component_items component.Place text)
    (λ items. set_in_part 4 (places_reading items)) (some_items component.Place text)
    (λ items some. in_part (LieWithin 1 31) 4 (places_reading items) (places_within items some))

hour_within : (text : List ℕ) → IfOk (component_reading component.Hour text) (LieWithin 0 23)
unfolding component_reading
hour_within text = list_within _ 5 (component_set component.Hour) (component_items component.Hour text)
    (λ items. items_within items 0 23 24 refl refl)

minute_within : (text : List ℕ) → IfOk (component_reading component.Minute text) (LieWithin 0 59)
unfolding component_reading
minute_within text = list_within _ 6 (component_set component.Minute) (component_items component.Minute text)
    (λ items. items_within items 0 59 60 refl refl)

second_within : (text : List ℕ) → IfOk (component_reading component.Second text) (LieWithin 0 59)
unfolding component_reading
second_within text = list_within _ 7 (component_set component.Second) (component_items component.Second text)
    (λ items. items_within items 0 59 60 refl refl)

weekday_list : (text : List ℕ) → IfOk (weekdays_reading text) (LieWithin 0 6)
unfolding weekdays_reading
weekday_list text = list_within _ 1 (λ items. set_reading items 0 6) (weekday_items text) (λ items. items_within items 0 6 7 refl refl)

weekdays_within : (text : Option (List ℕ)) → IfOk (weekdays_if_given text) (λ weekdays. IfSome weekdays (LieWithin 0 6))
weekdays_within None = tt
weekdays_within (Some text) = ok_steps (LieWithin 0 6) _ (weekdays_reading text) _ (weekday_list text) (λ weekdays own. own)

parts : (form : ShapeText) → IfOk (event_of form) EventIsWithinLimits
unfolding event_of
parts form =
    ok_steps (λ weekdays. IfSome weekdays (LieWithin 0 6)) EventIsWithinLimits (weekdays_if_given form.weekdays) _
    (weekdays_within form.weekdays)
    (λ weekdays in_weekdays. ok_steps (LieWithin first_year last_year) EventIsWithinLimits
    (component_reading component.Year form.date.year) _ (year_within form.date.year)
    (λ years in_years. ok_steps (LieWithin 1 12) EventIsWithinLimits (component_reading component.Month form.date.month) _
    (month_within form.date.month)
    (λ months in_months. ok_steps (LieWithin 1 31) EventIsWithinLimits
    (component_reading (day_component form.date.count) form.date.day) _ (day_within form.date.count form.date.day)
    (λ days in_days. ok_steps (LieWithin 0 23) EventIsWithinLimits (component_reading component.Hour form.time.hour) _
    (hour_within form.time.hour)
    (λ hours in_hours. ok_steps (LieWithin 0 59) EventIsWithinLimits (component_reading component.Minute form.time.minute) _
    (minute_within form.time.minute)
    (λ minutes in_minutes. ok_steps (LieWithin 0 59) EventIsWithinLimits (component_reading component.Second form.time.second) _
    (second_within form.time.second)
    (λ seconds in_seconds. record {
      years = in_years;
      months = in_months;
      days = in_days;
      hours = in_hours;
      minutes = in_minutes;
      seconds = in_seconds;
      weekdays = in_weekdays;
    })))))))

spelled : (texts : List (List ℕ)) → IfOk (spelled_out texts) EventIsWithinLimits
unfolding spelled_out
spelled texts = any_then EventIsWithinLimits (shape_reading texts) _ parts

lone : (word : List ℕ) (expression : Option (List ℕ)) → IfOk (lone_word word expression) EventIsWithinLimits
lone word expression = grind (arith, nat_tests, spelled)

no_zone : (texts : List (List ℕ)) → IfOk (zoneless texts) EventIsWithinLimits
unfolding zoneless
no_zone texts = grind (arith, nat_tests, spelled, lone)

placed : (clock : List Change) (event : Calendar) → EventIsWithinLimits event → EventIsWithinLimits (in_own_zone clock event)
placed clock event own = grind (arith, nat_tests)

cut_words :
    (zones : Zones) (texts : List (List ℕ)) (zone : Option (List ℕ)) → IfOk (cut_reading zones texts zone) EventIsWithinLimits
cut_words zones texts None = no_zone texts
cut_words zones texts (Some name) = any_then EventIsWithinLimits (zone_clock zones name) _
    (λ clock. ok_steps EventIsWithinLimits EventIsWithinLimits (zoneless texts) _ (no_zone texts) (placed clock))

all_words : (zones : Zones) (texts : List (List ℕ)) → IfOk (words_reading zones texts) EventIsWithinLimits
unfolding words_reading
all_words zones texts = cut_words zones (zone_cut texts).0 (zone_cut texts).1

-- the sets of a calendar event that was read are within the limits of their components
pub event : (zones : Zones) (text : List ℕ) → IfOk (event_reading zones text) EventIsWithinLimits
event zones text = ok_choice EventIsWithinLimits (has_specifier text) _ _ tt (all_words zones (words text))
