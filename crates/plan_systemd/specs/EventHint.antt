-- Why an event may be rejected: it has a form of weekdays that agenda does not read (agenda).
use Rattle.std.specs.Prelude.{ℕ, Bool, false, ◌&&◌, ◌||◌, ◌==◌, if◌then◌else◌, List, [], ◌∷◌, take, codes, Option, Some, None}
use Rattle.std.specs.List.{list_any, slice_split}
use Rattle.std.specs.Option.{option_map_or}
use Rattle.std.specs.Str.{byte}
use Rattle.plan_grammar.specs.Event.{names_weekday, weekday_names}
use Rattle.plan_texts.specs.Lines.{cut_word}
use Rattle.plan_texts.specs.Text.{cut_at, pieces}

-- a text is the name of a weekday, in full or by three letters, in any case (systemd.time(7))
abbrev pub is_weekday : List ℕ → Bool
is_weekday name = list_any (names_weekday name) weekday_names

-- a text is two names of weekdays with `-` between them, as old versions of systemd wrote a range
abbrev pub is_old_range : (element : List ℕ) → Bool
is_old_range element =
    option_map_or (λ ends. is_weekday ends.0 && is_weekday ends.1) (cut_at (codes "-") element) false

-- the first word of an event has such a range among its elements
abbrev pub has_old_range : (event : List ℕ) → Bool
has_old_range event =
    option_map_or (λ cut. list_any is_old_range (pieces (byte ",") cut.0)) (cut_word event) false

-- the hint for a rejected event, if there is one
abbrev pub event_hint : (event : List ℕ) → Option (List ℕ)
event_hint event = if has_old_range event then Some (codes "write Mon..Fri") else None
