-- The pieces of a command: its words, with their quotes, and its operators.
use Rattle.std.specs.Prelude.{ℕ, Bool, ◌||◌, ◌==◌, if◌then◌else◌, List, [], ◌∷◌, ◌++◌, length, Option, Some, None}
use Rattle.std.specs.List.{list_any}
use Rattle.std.specs.Option.{option_and_then}
use Rattle.std.specs.Str.{byte}
use Rattle.plan_shell.specs.declared.modes.Mode.{Mode}
use Rattle.plan_shell.specs.declared.modes.Mode.TheVariants.{Between}
use Rattle.plan_shell.specs.declared.modes.Action.{Action}
use Rattle.plan_shell.specs.declared.modes.Action.TheVariants.{Skip, Begin, Extend}
use Rattle.plan_shell.specs.Modes.{after_byte, may_end}

-- the pieces before the last one, and the last one, which is empty between pieces
pub record Cut : Type 0 where
  pub whole : List (List ℕ)
  pub last : List ℕ

abbrev pub cut_at : List (List ℕ) → List ℕ → Cut
cut_at whole last = record { whole = whole; last = last }

-- all pieces
abbrev pub closed : Cut → List (List ℕ)
closed cut = if length cut.last == 0 then cut.whole else cut.whole ++ cut.last ∷ []

-- what a byte does to the pieces
abbrev pub add : Action → ℕ → Cut → Cut
add Skip b cut = cut_at (closed cut) []
add Begin b cut = cut_at (closed cut) (b ∷ [])
add Extend b cut = cut_at cut.whole (cut.last ++ b ∷ [])

-- the pieces of a text, after others
abbrev pub pieces_from : Mode → Cut → List ℕ → Option (List (List ℕ))
pieces_from mode cut [] = if may_end mode then Some (closed cut) else None
pieces_from mode cut (b ∷ bs) =
    option_and_then (λ (next : Mode × Action). pieces_from next.0 (add next.1 b cut) bs) (after_byte mode b)

-- a byte that no command is read with: a newline, and NUL, which ends a text for sh(1) (agenda)
abbrev pub is_unread : ℕ → Bool
is_unread b = (b == byte "\n") || (b == 0)

-- the pieces of a command
abbrev pub pieces_of : List ℕ → Option (List (List ℕ))
pieces_of text = if list_any is_unread text then None else pieces_from Between (cut_at [] []) text
