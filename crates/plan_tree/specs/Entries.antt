-- The entries of a directory: its names in order, without hidden ones.
use Rattle.std.specs.Prelude.{ℕ, Bool, not, ◌==◌, List, filter, Option}
use Rattle.std.specs.Option.{option_map}
use Rattle.std.specs.Str.{byte}
use Rattle.plan_tree.specs.Order.{sorted}
use Rattle.plan_texts.specs.Text.{begins_with}

-- names that begin with a dot are ignored (agenda)
abbrev pub is_shown : List ℕ → Bool
is_shown name = not (begins_with (λ b. b == byte ".") name)

-- the entries of a directory, if it can be listed: its names that are shown, in the order of their bytes; and whether these are all
abbrev pub entries_of : Option (List (List ℕ) × Bool) → Option (List (List ℕ) × Bool)
entries_of names = option_map (λ listing. (sorted (filter is_shown listing.0), listing.1)) names
