-- Days from the end of the month that systemd 252 rejects, since they are too far from it.
use Rattle.std.specs.Prelude.{ℕ, ◌+◌, ◌*◌, ◌/◌, ◌%◌, Bool, not, ◌&&◌, ◌==◌, nat_le, nat_lt, if◌then◌else◌, List, [], ◌∷◌, map, max, Option, Some, None}
use Rattle.std.specs.List.{list_any}
use Rattle.plan_sets.specs.declared.item.Item.{Item}
use Rattle.plan_sets.specs.declared.item.Item.TheVariants.{One, Onward, Range}
use Rattle.plan_systemd.specs.Flaws.{last_in_range}

-- systemd's order of elements: by the first day, then the last day of a range, or 0, then the step, or 0. This number
-- has all three, with 16 bits each
abbrev pub order_of : (first last step : ℕ) → ℕ
order_of first last step = (first * 65536 + last) * 65536 + step

-- a range whose last value is its first one counts as that value
abbrev pub order_of_range : (first last step : ℕ) → ℕ
order_of_range first last step = if first == last then order_of first 0 0 else order_of first last step

-- the order of an element; a range ends with the last value that its step reaches (systemd 252)
abbrev pub element_order : Item → ℕ
element_order (One a) = order_of a 0 0
element_order (Onward a step) = order_of a 0 step
element_order (Range a b step) = order_of_range a (last_in_range a b step) step

-- the day of an element that is farthest from the end of the month
abbrev pub farthest : ℕ → ℕ
farthest order = max (order / 65536 / 65536) (order / 65536 % 65536)

-- how many different elements come before this one, in the order of systemd
abbrev pub rank : ℕ → List ℕ → ℕ
rank order [] = 0
rank order (other ∷ others) =
    if nat_lt other order && not (list_any (λ known. known == other) others) then 1 + rank order others else rank order others

-- an element is too far: the first one may go up to 28, and each later one 3 days less far (systemd 252)
abbrev pub is_too_far : List ℕ → ℕ → Bool
is_too_far orders order = nat_lt 28 (farthest order + 3 * rank order orders)

-- the order of an element, if it is from `from` on and less than the least one so far
abbrev pub least_by : ℕ → Option ℕ → ℕ → Option ℕ
least_by from None order = if nat_lt order from then None else Some order
least_by from (Some least) order = if nat_lt order from then Some least else (if nat_le least order then Some least else Some order)

-- some element is too far
abbrev pub has_late_days : List Item → Bool
has_late_days items = let orders = map element_order items in list_any (is_too_far orders) orders
