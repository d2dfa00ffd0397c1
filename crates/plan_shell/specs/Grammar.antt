-- The grammar of sh(1), in the part without loops and functions, over the pieces of a command, and the tree that each part makes.
--
--   list    = and_or { ; and_or } [;]      and_or  = pipeline { (&& | ||) pipeline }      pipeline = [!] command { "|" command }
--   command = { list } | ( list ) | if list then list { elif list then list } [else list] fi | simple
--
-- After a simple command, `}`, `then`, `elif`, `else` and `fi` are more words of it. So a list before one of these as a word of the grammar
-- is `closed`: it ends with `;`, or its last command isn't a simple one, as in `{ (a) }`. Elsewhere a list may be closed or not (`any`).
use Rattle.std.specs.Prelude.{◌≡◌, ℕ, Bool, true, false, List, [], ◌∷◌, ◌++◌, codes, Some}
use Rattle.plan_shell.specs.declared.step.Step.{Step}
use Rattle.plan_shell.specs.declared.tokens.Token.TheVariants as token
use Rattle.plan_shell.specs.Commands.{steps_of}
use Rattle.plan_shell.specs.Reading.{keyword, operator}
use Rattle.plan_shell.specs.Tree.{Shell, Known, Not, Both, And, Or, If, tree_of}

-- a piece that is no operator
abbrev pub IsWord : (piece : List ℕ) → Type 0
IsWord piece = operator piece ≡ token.Word

-- the words of a simple command: one that is no word of the grammar, and then any words
pub data AreWords : (words : List (List ℕ)) → Type 0 where
  first_word : (word : List ℕ) → IsWord word → keyword word ≡ token.Word → AreWords (word ∷ [])
  next_word : {words : List (List ℕ)} (word : List ℕ) → AreWords words → IsWord word → AreWords (words ++ word ∷ [])

mutual
  pub data IsCommand : (closed : Bool) → (pieces : List (List ℕ)) → Shell → Type 0 where
    simple : {words : List (List ℕ)} {steps : List Step} → AreWords words → steps_of words ≡ Some steps → IsCommand false words (tree_of steps)
    in_braces : {p : List (List ℕ)} {a : Shell} → AreCommands true p a → IsCommand true (codes "{" ∷ p ++ codes "}" ∷ []) a
    in_parentheses : {any : Bool} {p : List (List ℕ)} {a : Shell} → AreCommands any p a → IsCommand true (codes "(" ∷ p ++ codes ")" ∷ []) a
    choice : {p : List (List ℕ)} {a : Shell} → IsIf p a → IsCommand true (codes "if" ∷ p) a

  -- what follows `if` or `elif`
  pub data IsIf : (pieces : List (List ℕ)) → Shell → Type 0 where
    parts : {p q r : List (List ℕ)} {a b c : Shell} → AreCommands true p a → AreCommands true q b → IsRest r c
        → IsIf (p ++ codes "then" ∷ q ++ r) (If a b c)

  -- what follows the list after `then`; without an `else` the value is true
  pub data IsRest : (pieces : List (List ℕ)) → Shell → Type 0 where
    no_else : IsRest (codes "fi" ∷ []) (Known true)
    at_else : {p : List (List ℕ)} {a : Shell} → AreCommands true p a → IsRest (codes "else" ∷ p ++ codes "fi" ∷ []) a
    at_elif : {p : List (List ℕ)} {a : Shell} → IsIf p a → IsRest (codes "elif" ∷ p) a

  -- command { "|" command }
  pub data ArePiped : (closed : Bool) → (pieces : List (List ℕ)) → Shell → Type 0 where
    one_command : {closed : Bool} {p : List (List ℕ)} {a : Shell} → IsCommand closed p a → ArePiped closed p a
    pipe : {any closed : Bool} {p q : List (List ℕ)} {a b : Shell} → ArePiped any p a → IsCommand closed q b
        → ArePiped closed (p ++ codes "|" ∷ q) (Both a b)

  pub data IsPipeline : (closed : Bool) → (pieces : List (List ℕ)) → Shell → Type 0 where
    plain : {closed : Bool} {p : List (List ℕ)} {a : Shell} → ArePiped closed p a → IsPipeline closed p a
    negated : {closed : Bool} {p : List (List ℕ)} {a : Shell} → ArePiped closed p a → IsPipeline closed (codes "!" ∷ p) (Not a)

  pub data IsAndOr : (closed : Bool) → (pieces : List (List ℕ)) → Shell → Type 0 where
    one_pipeline : {closed : Bool} {p : List (List ℕ)} {a : Shell} → IsPipeline closed p a → IsAndOr closed p a
    and : {any closed : Bool} {p q : List (List ℕ)} {a b : Shell} → IsAndOr any p a → IsPipeline closed q b
        → IsAndOr closed (p ++ codes "&&" ∷ q) (And a b)
    or : {any closed : Bool} {p q : List (List ℕ)} {a b : Shell} → IsAndOr any p a → IsPipeline closed q b
        → IsAndOr closed (p ++ codes "||" ∷ q) (Or a b)

  -- and_or { ; and_or }
  pub data AreAndOrs : (closed : Bool) → (pieces : List (List ℕ)) → Shell → Type 0 where
    one_and_or : {closed : Bool} {p : List (List ℕ)} {a : Shell} → IsAndOr closed p a → AreAndOrs closed p a
    more : {any closed : Bool} {p q : List (List ℕ)} {a b : Shell} → AreAndOrs any p a → IsAndOr closed q b
        → AreAndOrs closed (p ++ codes ";" ∷ q) (Both a b)

  -- and_or { ; and_or } [;]
  pub data AreCommands : (closed : Bool) → (pieces : List (List ℕ)) → Shell → Type 0 where
    unended : {closed : Bool} {p : List (List ℕ)} {a : Shell} → AreAndOrs closed p a → AreCommands closed p a
    ended : {any : Bool} {p : List (List ℕ)} {a : Shell} → AreAndOrs any p a → AreCommands true (p ++ codes ";" ∷ []) a

-- a list, closed or not
abbrev pub IsList : (pieces : List (List ℕ)) → Shell → Type 0
IsList pieces a = (any : Bool) × AreCommands any pieces a
