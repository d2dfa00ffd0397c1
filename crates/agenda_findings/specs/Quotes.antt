-- Texts in quotes, as messages show them (agenda).
use Rattle.std.specs.Prelude.{ℕ, ◌/◌, ◌%◌, ◌||◌, ◌==◌, nat_le, nat_lt, if◌then◌else◌, List, [], ◌∷◌, ◌++◌, length, take, codes}
use Rattle.std.specs.Char.{digit_char}
use Rattle.std.specs.Fmt.Cut.{floor_char_boundary}
use Rattle.std.specs.List.{flat_map}
use Rattle.std.specs.Str.{byte}

-- the maximum number of bytes of a text that are shown
abbrev pub most_shown : ℕ
most_shown = 64

-- the first characters of a text that fit into 64 bytes
unfoldable pub shown : List ℕ → List ℕ
shown text = if nat_le (length text) most_shown then text else take (floor_char_boundary text most_shown) text

-- a byte in quotes: a control character by its number in two hexadecimal digits, a backslash twice, and any other byte as it is
abbrev pub escaped : ℕ → List ℕ
escaped b =
    if b == byte "\\" then codes "\\\\"
    else (if nat_lt b 32 || (b == 127) then codes "\\x" ++ (digit_char (b / 16) ∷ digit_char (b % 16) ∷ []) else b ∷ [])

-- what follows the closing quote of a text of which not all is shown
unfoldable pub dots : List ℕ → List ℕ
dots text = if nat_le (length text) most_shown then [] else codes "..."

-- a text in quotes
unfoldable pub quoted : List ℕ → List ℕ
quoted text = codes "'" ++ (flat_map escaped (shown text) ++ (codes "'" ++ dots text))

-- a text in quotes, with what comes before and after it
unfoldable pub around : (before text after : List ℕ) → List ℕ
around before text after = before ++ (quoted text ++ after)
