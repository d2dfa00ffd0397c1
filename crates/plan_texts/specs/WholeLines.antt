-- The whole lines of a unit file (systemd.syntax(7)): its lines without the comments, where a line that ends in a
-- backslash is merged with the next line. A whole line is the number of its first line, from 1, and its text.
use Rattle.std.specs.Prelude.{ℕ, ◌-◌, ◌%◌, Bool, not, ◌||◌, ◌==◌, if◌then◌else◌, List, [], ◌∷◌, ◌++◌, length, take, take_while, filter, map, string_bytes}
use Rattle.std.specs.List.{suffix_len, enumerate_from}
use Rattle.std.specs.Str.{byte, is_utf8}
use Rattle.std.specs.Str.Lines.{strip_carriage_return}
use Rattle.plan_texts.specs.declared.whole_lines.WholeLine.{WholeLine}
use Rattle.plan_texts.specs.Text.{is_blank, begins_with}
use Rattle.plan_texts.specs.Lines.{is_too_large, lines, after_blanks}

-- ---- one line

-- the text of a line: without one carriage return at its end (agenda), and without its leading blanks
abbrev pub line_text : List ℕ → List ℕ
line_text line = after_blanks (strip_carriage_return line)

-- a line that begins with `#` or `;` is a comment (systemd.syntax(7))
abbrev pub is_comment : List ℕ → Bool
is_comment text = begins_with (λ b. (b == byte "#") || (b == byte ";")) text

-- a line continues on the next one if it ends in an odd number of backslashes (systemd.syntax(7); the count is (agenda))
abbrev pub is_joined : List ℕ → Bool
is_joined text = suffix_len (λ b. b == byte "\\") text % 2 == 1

-- the last backslash of such a line is replaced by a space (systemd.syntax(7))
abbrev pub with_space : List ℕ → List ℕ
with_space text = take (length text - 1) text ++ byte " " ∷ []

-- ---- all lines

-- the lines that aren't comments, each with its number; comments are skipped even between merged lines (systemd.syntax(7))
abbrev pub numbered_texts : List (List ℕ) → List (ℕ × List ℕ)
numbered_texts lines = filter (λ line. not (is_comment line.1)) (enumerate_from 1 (map line_text lines))

-- a text merged with the whole line that follows it; if none follows, the text is a whole line: at the end of the file
-- a continued line ends
abbrev pub in_front : ℕ → List ℕ → List (ℕ × List ℕ) → List (ℕ × List ℕ)
in_front number text [] = (number, text) ∷ []
in_front number text (next ∷ more) = (number, text ++ next.1) ∷ more

-- a line, and the whole lines that follow it: it is merged with the first of them if it continues
abbrev pub with_line : ℕ × List ℕ → List (ℕ × List ℕ) → List (ℕ × List ℕ)
with_line line whole = if is_joined line.1 then in_front line.0 (with_space line.1) whole else line ∷ whole

-- lines, merged wherever one continues on the next
abbrev pub joined : List (ℕ × List ℕ) → List (ℕ × List ℕ)
joined [] = []
joined (line ∷ more) = with_line line (joined more)

-- the whole lines of a unit file's text
unfoldable pub whole_lines : List ℕ → List (ℕ × List ℕ)
whole_lines text = joined (numbered_texts (lines text))

-- whole lines up to the first that isn't UTF-8, where systemd stops reading (systemd 252)
abbrev pub before_bad : List (ℕ × List ℕ) → List (ℕ × List ℕ)
before_bad whole = take_while (λ line. is_utf8 line.1) whole

-- the whole lines that are read of a unit file's bytes; of a text that is too large there are none (agenda)
unfoldable pub readable_lines : List ℕ → List (ℕ × List ℕ)
readable_lines text = if is_too_large text then [] else before_bad (whole_lines text)

-- ---- blanks at both ends

-- a text without the blanks at its end
abbrev pub before_blanks : List ℕ → List ℕ
before_blanks text = take (length text - suffix_len is_blank text) text

-- a text without the blanks at both ends
abbrev pub trimmed : List ℕ → List ℕ
trimmed text = before_blanks (after_blanks text)

-- ---- values of the code

-- the number and the text of a whole line
abbrev pub whole_text : WholeLine → ℕ × List ℕ
whole_text line = (line.number, string_bytes line.text)
