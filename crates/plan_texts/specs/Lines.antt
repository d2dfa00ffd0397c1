-- The lines of a text, and the first word of a line.
use Rattle.std.specs.Prelude.{◌≡◌, ℕ, Bool, false, ◌==◌, nat_lt, if◌then◌else◌, List, [], ◌∷◌, ◌++◌, length, drop, Option, Some, None}
use Rattle.std.specs.List.{prefix_len, position_or_len, before_first, list_any}
use Rattle.std.specs.Str.{byte}
use Rattle.plan_texts.specs.Limits.{most_bytes}
use Rattle.plan_texts.specs.Text.{is_blank, pieces}

-- ---- the size of a text

-- a text of lines is too large if it has more than 1,048,576 bytes (agenda)
abbrev pub is_too_large : List ℕ → Bool
is_too_large text = nat_lt most_bytes (length text)

-- ---- lines

-- what follows the last newline is a line only if it isn't empty (agenda)
abbrev pub without_empty_end : List (List ℕ) → List (List ℕ)
without_empty_end [] = []
without_empty_end (last ∷ []) = if length last == 0 then [] else last ∷ []
without_empty_end (line ∷ next ∷ more) = line ∷ without_empty_end (next ∷ more)

-- the lines of a text: each ends at a newline or at the end of the text, and a carriage return is an ordinary character (agenda)
unfoldable pub lines : List ℕ → List (List ℕ)
lines text = without_empty_end (pieces (byte "\n") text)

-- lines as they are written: each with a newline after it
abbrev pub written : List (List ℕ) → List ℕ
written [] = []
written (line ∷ more) = line ++ byte "\n" ∷ written more

-- a text with a newline at its end, which is added if the last line has none
abbrev pub with_newline : List ℕ → List ℕ
with_newline [] = []
with_newline (b ∷ []) = if b == byte "\n" then b ∷ [] else b ∷ byte "\n" ∷ []
with_newline (b ∷ next ∷ more) = b ∷ with_newline (next ∷ more)

-- a line contains no newline
abbrev pub HasNoNewline : List ℕ → Type 0
HasNoNewline line = list_any (λ b. b == byte "\n") line ≡ false

-- ---- the first word of a line

-- a text without its leading blanks
abbrev pub after_blanks : List ℕ → List ℕ
after_blanks text = drop (prefix_len is_blank text) text

-- a text that begins with a word, cut at the end of the word
abbrev pub cut_after_word : List ℕ → List ℕ × List ℕ
cut_after_word text = (before_first is_blank text, drop (position_or_len is_blank text) text)

-- the first word of a text and what follows it; None if the text has nothing but blanks
unfoldable pub cut_word : List ℕ → Option (List ℕ × List ℕ)
cut_word text = if length (after_blanks text) == 0 then None else Some (cut_after_word (after_blanks text))
