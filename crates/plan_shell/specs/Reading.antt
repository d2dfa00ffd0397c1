-- How the pieces of a command are read, from left to right (sh(1), the part of its grammar without loops and functions).
--
--   list    = and_or { ; and_or } [;]      and_or  = pipeline { (&& | ||) pipeline }      pipeline = [!] command { "|" command }
--   command = { list } | ( list ) | if list then list { elif list then list } [else list] fi | simple
use Rattle.std.specs.Prelude.{ℕ, ◌+◌, Bool, true, false, not, ◌&&◌, ◌||◌, nat_lt, if◌then◌else◌, List, [], ◌∷◌, ◌++◌, length, replicate, codes, Option, Some, None}
use Rattle.std.specs.Option.{option_and_then}
use Rattle.std.specs.Str.{bytes_eq}
use Rattle.plan_shell.specs.declared.step.Step.{Step}
use Rattle.plan_shell.specs.declared.step.Step.TheVariants as step
use Rattle.plan_shell.specs.declared.tokens.Token.{Token}
use Rattle.plan_shell.specs.declared.tokens.Token.TheVariants as token
use Rattle.plan_shell.specs.declared.level.Join.{Join}
use Rattle.plan_shell.specs.declared.level.Join.TheVariants as join
use Rattle.plan_shell.specs.declared.level.Inside.{Inside}
use Rattle.plan_shell.specs.declared.level.Inside.TheVariants as inside
use Rattle.plan_shell.specs.declared.level.Level.{Level}
use Rattle.plan_shell.specs.declared.reader.Reader.{Reader}
use Rattle.plan_shell.specs.declared.reader.Place.{Place}
use Rattle.plan_shell.specs.declared.reader.Place.TheVariants.{Command, CommandOrEnd, Words, Operator}
use Rattle.plan_shell.specs.Commands.{steps_of}
use Rattle.plan_shell.specs.Pieces.{pieces_of}

-- ---- pieces

-- an operator; other pieces are words
abbrev pub operator : (piece : List ℕ) → Token
operator piece =
    if bytes_eq piece (codes ";") then token.Semicolon else
    if bytes_eq piece (codes "&&") then token.And else
    if bytes_eq piece (codes "||") then token.Or else
    if bytes_eq piece (codes "|") then token.Pipe else
    if bytes_eq piece (codes "(") then token.Opens inside.Parentheses else
    if bytes_eq piece (codes ")") then token.Closes inside.Parentheses else token.Word

-- a word of the grammar; other words are words of simple commands
abbrev pub keyword : (word : List ℕ) → Token
keyword word =
    if bytes_eq word (codes "!") then token.Not else
    if bytes_eq word (codes "{") then token.Opens inside.Braces else
    if bytes_eq word (codes "}") then token.Closes inside.Braces else
    if bytes_eq word (codes "if") then token.Opens inside.Condition else
    if bytes_eq word (codes "then") then token.Then else
    if bytes_eq word (codes "elif") then token.Elif else
    if bytes_eq word (codes "else") then token.Else else
    if bytes_eq word (codes "fi") then token.Fi else token.Word

-- a piece that may be a word of the grammar
abbrev pub keyword_or : Token → (piece : List ℕ) → Token
keyword_or token.Word piece = keyword piece
keyword_or token piece = token

-- what a piece is: in a simple command, words of the grammar are ordinary words
abbrev pub token_at : Place → (piece : List ℕ) → Token
token_at Words piece = operator piece
token_at place piece = keyword_or (operator piece) piece

-- ---- one list

-- a list of which nothing has been read
abbrev pub new_level : Inside → (elifs : ℕ) → Level
new_level kind elifs = record { inside = kind; elifs = elifs; is_second = false; join = join.None; is_negated = false; is_piped = false }

-- the steps that end a command: those of the pipeline that it is in
abbrev pub pipe_steps : Level → List Step
pipe_steps level = if level.is_piped then step.Both ∷ [] else []

abbrev pub not_steps : Level → List Step
not_steps level = if level.is_negated then step.Not ∷ [] else []

abbrev pub join_steps : Join → List Step
join_steps join.None = []
join_steps join.And = step.And ∷ []
join_steps join.Or = step.Or ∷ []

abbrev pub list_steps : Level → List Step
list_steps level = if level.is_second then step.Both ∷ [] else []

-- the steps that end a pipeline: those of the pipelines that it is joined to
abbrev pub pipeline_steps : Level → List Step
pipeline_steps level = pipe_steps level ++ not_steps level ++ join_steps level.join

-- the steps that end a list of which a command has just been read
abbrev pub ending_steps : Level → List Step
ending_steps level = pipeline_steps level ++ list_steps level

-- ---- all lists

-- the steps so far; the lists that a list is in, the innermost first; that list; what may come next
pub record State : Type 0 where
  pub steps : List Step
  pub outer : List Level
  pub level : Level
  pub place : Place

abbrev pub state_of : Reader → State
state_of reader = record { steps = reader.steps.items; outer = reader.outer; level = reader.level; place = reader.place }

-- the maximum number of lists that a list is in, and of `elif`s of an `if` (agenda)
abbrev pub most_nested : ℕ
most_nested = 64

-- a command may come
abbrev pub may_begin : Place → Bool
may_begin Command = true
may_begin CommandOrEnd = true
may_begin _ = false

-- a list may end
abbrev pub may_end : Place → Bool
may_end CommandOrEnd = true
may_end Operator = true
may_end _ = false

-- the steps that end a list: none after `;`
abbrev pub end_steps : Place → Level → List Step
end_steps Operator level = ending_steps level
end_steps _ level = []

-- a list ends
abbrev pub with_end : State → State
with_end s = record s { steps = s.steps ++ end_steps s.place s.level }

-- a command ends with the list that was begun in it
abbrev pub left : (outer : List Level) → State → Option State
left [] s = None
left (level ∷ outer) s = Some (record s { outer = outer; level = level; place = Operator })

-- a simple command has ended
abbrev pub with_command : State → Option (List Step) → Option State
with_command s None = None
with_command s (Some steps) = Some (record s { steps = s.steps ++ steps; place = Operator })

-- a simple command, if there is one, ends before an operator
abbrev pub ended : Place → (words : List (List ℕ)) → State → Option State
ended Words words s = with_command s (steps_of words)
ended _ words s = Some s

-- a word of a simple command
abbrev pub at_word : Place → State → Option State
at_word Operator s = None
at_word _ s = Some (record s { place = Words })

-- `;`
abbrev pub at_semicolon : Place → State → Option State
at_semicolon Operator s = Some (record s {
  steps = s.steps ++ ending_steps s.level;
  level = record (new_level s.level.inside s.level.elifs) { is_second = true };
  place = CommandOrEnd;
})
at_semicolon _ s = None

-- `&&` and `||`
abbrev pub at_join : Place → Join → State → Option State
at_join Operator next s = Some (record s {
  steps = s.steps ++ pipeline_steps s.level;
  level = record s.level { join = next; is_negated = false; is_piped = false };
  place = Command;
})
at_join _ next s = None

-- `|`
abbrev pub at_pipe : Place → State → Option State
at_pipe Operator s = Some (record s {
  steps = s.steps ++ pipe_steps s.level;
  level = record s.level { is_piped = true };
  place = Command;
})
at_pipe _ s = None

-- `!`, which begins a pipeline
abbrev pub at_not : State → Option State
at_not s =
    if may_begin s.place && not (s.level.is_negated || s.level.is_piped)
    then Some (record s { level = record s.level { is_negated = true }; place = Command }) else None

-- `(`, `{` and `if`: a list begins in a command
abbrev pub at_open : Inside → State → Option State
at_open kind s =
    if may_begin s.place && nat_lt (length s.outer) most_nested
    then Some (record s { outer = s.level ∷ s.outer; level = new_level kind 0; place = Command }) else None

-- a list is inside this
abbrev pub is_in : Inside → Inside → Bool
is_in inside.Whole inside.Whole = true
is_in inside.Parentheses inside.Parentheses = true
is_in inside.Braces inside.Braces = true
is_in inside.Condition inside.Condition = true
is_in inside.Then inside.Then = true
is_in inside.Else inside.Else = true
is_in _ _ = false

-- a list of this kind may end
abbrev pub ends_in : Inside → State → Bool
ends_in kind s = may_end s.place && is_in kind s.level.inside

-- `)` and `}`
abbrev pub at_close : Inside → State → Option State
at_close kind s = if ends_in kind s then left s.outer (with_end s) else None

-- `then`, `elif` and `else`: the next part of an `if`
abbrev pub at_part : (from to : Inside) → (elifs : ℕ) → State → Option State
at_part from to elifs s =
    if ends_in from s then Some (record (with_end s) { level = new_level to elifs; place = Command }) else None

-- `elif` begins another `if`
abbrev pub at_elif : State → Option State
at_elif s = if nat_lt s.level.elifs most_nested then at_part inside.Then inside.Condition (s.level.elifs + 1) s else None

-- the steps that end an `if` and those that its `elif`s began
abbrev pub if_steps : (elifs : ℕ) → List Step
if_steps elifs = replicate elifs step.If ++ step.If ∷ []

-- more steps
abbrev pub with_steps : State → List Step → State
with_steps s more = record s { steps = s.steps ++ more }

-- `fi`: without an `else` the value is true
abbrev pub at_fi : State → Option State
at_fi s =
    if ends_in inside.Then s then left s.outer (with_steps (with_steps (with_end s) (step.Known true ∷ [])) (if_steps s.level.elifs)) else
    if ends_in inside.Else s then left s.outer (with_steps (with_end s) (if_steps s.level.elifs)) else None

-- a token that isn't a word of a simple command
abbrev pub at_token : Token → State → Option State
at_token token.Word s = None
at_token token.Semicolon s = at_semicolon s.place s
at_token token.And s = at_join s.place join.And s
at_token token.Or s = at_join s.place join.Or s
at_token token.Pipe s = at_pipe s.place s
at_token token.Not s = at_not s
at_token (token.Opens kind) s = at_open kind s
at_token (token.Closes kind) s = at_close kind s
at_token token.Then s = at_part inside.Condition inside.Then s.level.elifs s
at_token token.Elif s = at_elif s
at_token token.Else s = at_part inside.Then inside.Else s.level.elifs s
at_token token.Fi s = at_fi s

-- what is read after a token
abbrev pub after_token : Token → (words : List (List ℕ)) → State → Option State
after_token token.Word words s = at_word s.place s
after_token token words s = option_and_then (at_token token) (ended s.place words s)

-- the words of a simple command after a token
abbrev pub words_after : Token → (piece : List ℕ) → (words : List (List ℕ)) → List (List ℕ)
words_after token.Word piece words = words ++ piece ∷ []
words_after token piece words = []

-- nothing has been read
abbrev pub start : State
start = record { steps = []; outer = []; level = new_level inside.Whole 0; place = Command }

-- the steps of a command that has ended
abbrev pub whole : State → Option (List Step)
whole s = if ends_in inside.Whole s then Some (with_end s).steps else None

-- the steps of the pieces that are left
abbrev pub steps_from : (words : List (List ℕ)) → State → (pieces : List (List ℕ)) → Option (List Step)
steps_from words s [] = option_and_then whole (ended s.place words s)
steps_from words s (piece ∷ pieces) =
    option_and_then (λ next. steps_from (words_after (token_at s.place piece) piece words) next pieces)
    (after_token (token_at s.place piece) words s)

-- the steps of a command; nothing, if it isn't read
abbrev pub steps_in : (command : List ℕ) → Option (List Step)
steps_in command = option_and_then (steps_from [] start) (pieces_of command)
