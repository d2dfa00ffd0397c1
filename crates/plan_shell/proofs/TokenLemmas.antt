-- How the pieces are spelled that aren't words of simple commands.
use Rattle.std.proofs.Common.{◌≡◌, ℕ, Bool, true, false, if◌then◌else◌, sym, subst, refl, List, codes, bytes_eq}
use Rattle.std.proofs.lemmas.Slice.Eq.{bytes_eq-Decides}
use Rattle.plan_shell.specs.declared.tokens.Token.{Token}
use Rattle.plan_shell.specs.declared.tokens.Token.TheVariants as token
use Rattle.plan_shell.specs.declared.level.Inside.TheVariants as inside
use Rattle.plan_shell.specs.declared.reader.Place.{Place}
use Rattle.plan_shell.specs.declared.reader.Place.TheVariants.{Words}
use Rattle.plan_shell.specs.Reading.{keyword, keyword_or, operator, token_at}

-- `closed`: words of the grammar may come
pub data Spelled : (closed : Bool) → Token → (piece : List ℕ) → Type 0 where
  word : {closed : Bool} (piece : List ℕ) → Spelled closed token.Word piece
  semicolon : {closed : Bool} → Spelled closed token.Semicolon (codes ";")
  and : {closed : Bool} → Spelled closed token.And (codes "&&")
  or : {closed : Bool} → Spelled closed token.Or (codes "||")
  pipe : {closed : Bool} → Spelled closed token.Pipe (codes "|")
  exclamation : Spelled true token.Not (codes "!")
  parenthesis : {closed : Bool} → Spelled closed (token.Opens inside.Parentheses) (codes "(")
  closing_parenthesis : {closed : Bool} → Spelled closed (token.Closes inside.Parentheses) (codes ")")
  brace : Spelled true (token.Opens inside.Braces) (codes "{")
  closing_brace : Spelled true (token.Closes inside.Braces) (codes "}")
  word_if : Spelled true (token.Opens inside.Condition) (codes "if")
  word_then : Spelled true token.Then (codes "then")
  word_elif : Spelled true token.Elif (codes "elif")
  word_else : Spelled true token.Else (codes "else")
  word_fi : Spelled true token.Fi (codes "fi")

-- a piece is this one, or another
either : {closed : Bool} {this other : Token} (piece : List ℕ) {text : List ℕ} → Spelled closed this text → Spelled closed other piece
    → Spelled closed (if bytes_eq piece text then this else other) piece
either {closed} {this} {other} piece {text} first second = by_test (bytes_eq piece text) (bytes_eq-Decides piece text).0
  where
    by_test : (b : Bool) → (b ≡ true → piece ≡ text) → Spelled closed (if b then this else other) piece
    by_test true same = subst (Spelled closed this) (sym (same refl)) first
    by_test false same = second

spelled_operator : {closed : Bool} (piece : List ℕ) → Spelled closed (operator piece) piece
spelled_operator piece =
    either piece semicolon (either piece and (either piece or (either piece pipe (either piece parenthesis
    (either piece closing_parenthesis (word piece))))))

spelled_keyword : (piece : List ℕ) → Spelled true (keyword piece) piece
spelled_keyword piece =
    either piece exclamation (either piece brace (either piece closing_brace (either piece word_if (either piece word_then
    (either piece word_elif (either piece word_else (either piece word_fi (word piece))))))))

spelled_or : (found : Token) (piece : List ℕ) → Spelled true found piece → Spelled true (keyword_or found piece) piece
spelled_or token.Word piece spelled = spelled_keyword piece
spelled_or _ piece spelled = spelled

-- words of the grammar may come here
abbrev pub is_closed : Place → Bool
is_closed Words = false
is_closed _ = true

-- a piece is spelled as what it is
pub spelled_at : (place : Place) (piece : List ℕ) → Spelled (is_closed place) (token_at place piece) piece
spelled_at Words piece = spelled_operator piece
spelled_at _ piece = spelled_or (operator piece) piece (spelled_operator piece)

-- a piece that is no operator and no word of the grammar
pub plain_word : (found : Token) (piece : List ℕ) → keyword_or found piece ≡ token.Word → (found ≡ token.Word) × (keyword piece ≡ token.Word)
plain_word token.Word piece h = (refl, h)
plain_word _ piece h = cc
