-- Texts as people are shown them (agenda).
use Rattle.std.specs.Prelude.{ℕ, ◌/◌, ◌%◌, ◌==◌, if◌then◌else◌, List, [], ◌∷◌, ◌++◌, codes}
use Rattle.std.specs.Char.{digit_char, encode_utf8, is_control}
use Rattle.std.specs.List.{flat_map}
use Rattle.std.specs.Str.{byte, chars}

-- a byte by its number: two hexadecimal digits, in lower case
abbrev pub shown_byte : ℕ → List ℕ
shown_byte b = codes "\\x" ++ (digit_char (b / 16) ∷ digit_char (b % 16) ∷ [])

-- a character: a backslash twice, a control character by its bytes, and any other as it is
unfoldable pub shown_char : ℕ → List ℕ
shown_char c =
    if c == byte "\\" then codes "\\\\" else
    if is_control c then flat_map shown_byte (encode_utf8 c) else encode_utf8 c

-- a text
unfoldable pub shown : List ℕ → List ℕ
shown text = flat_map shown_char (chars text)
