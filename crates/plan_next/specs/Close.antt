-- Starts of a rule that are close together (agenda).
use Rattle.std.specs.Prelude.{ℕ, ◌+◌, Bool, is_some, slice_get}
use Rattle.std.specs.List.{list_any}
use Rattle.plan_match.specs.declared.rule.Rule.{Rule}
use Rattle.plan_next.specs.Starts.{starts}

-- the rule has a start at or after a and before b
abbrev pub has_start : Rule → (a b : ℕ) → Bool
has_start rule a b = is_some (slice_get (starts rule a b) 0)

-- some start of the rule at or after a and before b has another one less than `apart` seconds after it
abbrev pub has_close_starts : Rule → (a b apart : ℕ) → Bool
has_close_starts rule a b apart = list_any (λ s. has_start rule (s + 1) (s + apart)) (starts rule a b)
