-- Items of a field: which numbers belong to them, and what is wrong with a list of items.
use Rattle.std.specs.Prelude.{ℕ, ◌+◌, ◌-◌, ◌%◌, Bool, ◌&&◌, ◌==◌, nat_le, nat_lt, if◌then◌else◌, List, [], ◌∷◌, Option, Some, None, Result, Ok, Err}
use Rattle.std.specs.List.{list_any}
use Rattle.plan_sets.specs.declared.item.Item.{Item}
use Rattle.plan_sets.specs.declared.item.Item.TheVariants.{One, Onward, Range}
use Rattle.plan_sets.specs.declared.item.SetFault.{SetFault}
use Rattle.plan_sets.specs.declared.item.SetFault.TheVariants.{NoItem, OutOfRange, Backwards, ZeroStep}
use Rattle.plan_sets.specs.Values.{Values, values_where}

-- v is one of the numbers a, a + step, .. up to b
abbrev pub is_step : ℕ → ℕ → ℕ → ℕ → Bool
is_step a b step v = nat_le a v && (nat_le v b && ((v - a) % step == 0))

-- v belongs to an item (crontab(5), ranges and steps; systemd.time(7), ranges and repetition values)
abbrev pub belongs : Item → ℕ → Bool
belongs (One a) v = v == a
belongs (Onward a step) v = nat_le a v && ((v - a) % step == 0)
belongs (Range a b step) v = is_step a b step v

-- v is from lo to hi
abbrev pub is_within : ℕ → ℕ → ℕ → Bool
is_within lo hi v = nat_le lo v && nat_le v hi

-- v is from lo to hi and belongs to one of the items
abbrev pub is_held : List Item → ℕ → ℕ → ℕ → Bool
is_held items lo hi v = is_within lo hi v && list_any (λ item. belongs item v) items

-- what is wrong with an item: a number is not from lo to hi, else the end of a range is before its start, else a step is 0 (agenda)
abbrev pub item_fault : ℕ → ℕ → Item → Option SetFault
item_fault lo hi (One a) = if is_within lo hi a then None else Some OutOfRange
item_fault lo hi (Onward a step) =
    if is_within lo hi a then (if step == 0 then Some ZeroStep else None) else Some OutOfRange
item_fault lo hi (Range a b step) =
    if is_within lo hi a && is_within lo hi b
    then (if nat_lt b a then Some Backwards else (if step == 0 then Some ZeroStep else None))
    else Some OutOfRange

-- the first of two errors
abbrev pub fault_or : Option SetFault → Option SetFault → Option SetFault
fault_or None later = later
fault_or (Some fault) later = Some fault

-- the error of the first invalid item
abbrev pub first_fault : ℕ → ℕ → List Item → Option SetFault
first_fault lo hi [] = None
first_fault lo hi (item ∷ items) = fault_or (item_fault lo hi item) (first_fault lo hi items)

-- the error of a list of items: that it is empty, or the error of its first invalid item (agenda)
abbrev pub items_fault : ℕ → ℕ → List Item → Option SetFault
items_fault lo hi [] = Some NoItem
items_fault lo hi (item ∷ items) = first_fault lo hi (item ∷ items)

-- the values from lo to hi that belong to an item
abbrev pub held_values : List Item → ℕ → ℕ → Values
held_values items lo hi = values_where lo (hi + 1 - lo) (λ v. list_any (λ item. belongs item v) items)

-- these values, unless something is wrong
abbrev pub values_or_fault : Values → Option SetFault → Result Values SetFault
values_or_fault values None = Ok values
values_or_fault values (Some fault) = Err fault

-- the meaning of a list of items in a field with values from lo to hi: their values, or the first error
unfoldable pub set_reading : List Item → ℕ → ℕ → Result Values SetFault
set_reading items lo hi = values_or_fault (held_values items lo hi) (items_fault lo hi items)
