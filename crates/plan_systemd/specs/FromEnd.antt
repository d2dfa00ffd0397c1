-- Days from the end of the month that systemd 252 reads otherwise.
use Rattle.std.specs.Prelude.{ℕ, List, Option, None}
use Rattle.plan_match.specs.declared.event.DayCount.{DayCount}
use Rattle.plan_match.specs.declared.event.DayCount.TheVariants.{FromStart, FromEnd}
use Rattle.plan_grammar.specs.EventItems.{Elements, ItemLists, event_items_reading}
use Rattle.plan_systemd.specs.declared.flaw.Flaw.TheVariants.{ReadOtherwise}
use Rattle.plan_systemd.specs.Flaws.{hint_in}
use Rattle.plan_systemd.specs.Rejection.{read_hint}

-- only days from the end of the month are read otherwise
abbrev pub days_otherwise : DayCount → Elements → Option (List ℕ)
days_otherwise FromStart days = None
days_otherwise FromEnd days = hint_in ReadOtherwise days

-- what to write for the first range that systemd 252 reads otherwise
abbrev pub from_end_hint : ItemLists → Option (List ℕ)
from_end_hint lists = days_otherwise lists.count lists.days

-- the same of an event's text
abbrev pub from_end_of : (text : List ℕ) → Option (List ℕ)
from_end_of text = read_hint from_end_hint (event_items_reading text)
