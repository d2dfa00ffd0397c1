-- The calendar events that systemd 252 rejects, of those that agenda accepts, and what to do about them.
use Rattle.std.specs.Prelude.{ℕ, Bool, nat_lt, if◌then◌else◌, List, length, codes, Option, Some, None, Ok, Err}
use Rattle.std.specs.Option.{option_or}
use Rattle.std.specs.Str.{bytes_eq}
use Rattle.plan_match.specs.declared.event.DayCount.{DayCount}
use Rattle.plan_match.specs.declared.event.DayCount.TheVariants.{FromStart, FromEnd}
use Rattle.plan_grammar.specs.declared.component.Component.{Component}
use Rattle.plan_grammar.specs.declared.component.Component.TheVariants.{Year, Month, Hour, Minute, Second}
use Rattle.plan_grammar.specs.Event.{day_component}
use Rattle.plan_grammar.specs.EventItems.{Elements, ItemLists, event_items_reading}
use Rattle.plan_grammar.specs.Readings.{Reading}
use Rattle.plan_systemd.specs.declared.flaw.Flaw.TheVariants.{Star, NeverFits, LateYear, OneSecond, LongStep, Backwards}
use Rattle.plan_systemd.specs.declared.rejected.Reason.{Reason}
use Rattle.plan_systemd.specs.declared.rejected.Reason.TheVariants as why
use Rattle.plan_systemd.specs.Flaws.{found_hint, hint_in}
use Rattle.plan_systemd.specs.LateDays.{has_late_days}
use Rattle.plan_systemd.specs.Spacing.{has_bad_blanks}

-- the first hint, if there is one, else the second
infixl 10 ◌<|>◌
abbrev pub ◌<|>◌ : Option (List ℕ) → Option (List ℕ) → Option (List ℕ)
first <|> second = option_or first second

-- a hint, if a test is passed
abbrev pub hint_if : Bool → List ℕ → Option (List ℕ)
hint_if test hint = if test then Some hint else None

-- ---- the hints that don't depend on an element

abbrev pub blanks_hint : List ℕ
blanks_hint = codes "write one space between words"

abbrev pub many_hint : List ℕ
many_hint = codes "more than 241 elements"

abbrev pub late_days_hint : List ℕ
late_days_hint = codes "days after ~ end at 28, in a list at 25, 22, .."

-- ---- an event

-- a component has more elements than systemd 252 accepts
abbrev pub has_many : Elements → Bool
has_many elements = nat_lt 241 (length elements.items)

-- the first hint of the components, in the order of the text
abbrev pub in_each : (Component → Elements → Option (List ℕ)) → ItemLists → Option (List ℕ)
in_each hint lists =
    hint Year lists.years
    <|> hint Month lists.months
    <|> hint (day_component lists.count) lists.days
    <|> hint Hour lists.hours
    <|> hint Minute lists.minutes
    <|> hint Second lists.seconds

-- days from the end of the month, which `*` alone isn't: no range runs backwards, and none is too far
abbrev pub days_hint : DayCount → Elements → Option (List ℕ)
days_hint FromStart days = None
days_hint FromEnd days =
    hint_in Backwards days
    <|> (if bytes_eq days.text (codes "*") then None else hint_if (has_late_days days.items) late_days_hint)

-- a step, a year or a second that systemd 252 rejects
abbrev pub values_hint : ItemLists → Option (List ℕ)
values_hint lists =
    in_each (λ component. hint_in (NeverFits component)) lists
    <|> hint_in LateYear lists.years
    <|> hint_in OneSecond lists.seconds
    <|> hint_in LongStep lists.seconds

-- why systemd 252 rejects the elements of an event, by the first reason in this order
abbrev pub elements_hint : ItemLists → Option (List ℕ)
elements_hint lists =
    in_each (λ component. hint_in (Star component)) lists
    <|> in_each (λ component elements. hint_if (has_many elements) many_hint) lists
    <|> values_hint lists
    <|> days_hint lists.count lists.days

-- the same of an event's text; its blanks come first
abbrev pub event_hint : List ℕ → ItemLists → Option (List ℕ)
event_hint text lists = hint_if (has_bad_blanks text) blanks_hint <|> elements_hint lists

-- the hint of a text's elements, if they can be read
abbrev pub read_hint : (ItemLists → Option (List ℕ)) → Reading ItemLists → Option (List ℕ)
read_hint hint (Ok lists) = hint lists
read_hint hint (Err fault) = None

-- why systemd 252 rejects an event that agenda accepts: what to do about it; None if systemd accepts it
abbrev pub rejection_of : (text : List ℕ) → Option (List ℕ)
rejection_of text = read_hint (event_hint text) (event_items_reading text)

-- ---- what the code finds

-- what to do about a reason
abbrev pub reason_hint : Reason → List ℕ
reason_hint why.Blanks = blanks_hint
reason_hint why.Many = many_hint
reason_hint why.LateDays = late_days_hint
reason_hint (why.Element found) = found_hint found
