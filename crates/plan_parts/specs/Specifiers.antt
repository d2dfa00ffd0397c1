-- Specifiers in the file of an instance (systemd.unit(5), specifiers).
use Rattle.std.specs.Prelude.{ℕ, ◌-◌, Bool, true, false, not, ◌==◌, if◌then◌else◌, List, [], ◌∷◌, ◌++◌, length, take, drop, map, Option, None, Some}
use Rattle.std.specs.List.{list_any, suffix_len}
use Rattle.std.specs.Str.{byte}
use Rattle.plan_parts.specs.NameParts.{parts_of, type_start}

-- what follows the last `-` of a text, or all of it
abbrev pub last_part : List ℕ → List ℕ
last_part text = drop (length text - suffix_len (λ b. not (b == byte "-")) text) text

-- a text with `/` for each `-`, as unescaped names have
abbrev pub slashed : List ℕ → List ℕ
slashed text = map (λ b. if b == byte "-" then byte "/" else b) text

-- the text of a specifier by its letter, for a name with its PREFIX and its INSTANCE; None for another letter
abbrev pub specifier : List ℕ → List ℕ → List ℕ → ℕ → Option (List ℕ)
specifier name prefix instance letter =
    if letter == byte "i" then Some instance else
    if letter == byte "I" then Some (slashed instance) else
    if letter == byte "n" then Some name else
    if letter == byte "N" then Some (take (type_start name) name) else
    if letter == byte "p" then Some prefix else
    if letter == byte "P" then Some (slashed prefix) else
    if letter == byte "j" then Some (last_part prefix) else
    if letter == byte "J" then Some (slashed (last_part prefix)) else
    if letter == byte "%" then Some (byte "%" ∷ []) else
    None

-- a `%` before another letter stays (agenda)
abbrev pub text_for : Option (List ℕ) → ℕ → List ℕ
text_for None letter = byte "%" ∷ letter ∷ []
text_for (Some text) letter = text

-- a text, read from left to right, with the texts that `put` gives for letters after `%`; `marked` says whether it follows a `%`
abbrev pub replaced : (put : ℕ → List ℕ) → (marked : Bool) → List ℕ → List ℕ
replaced put false [] = []
replaced put true [] = byte "%" ∷ []
replaced put true (b ∷ more) = put b ++ replaced put false more
replaced put false (b ∷ more) = if b == byte "%" then replaced put true more else b ∷ replaced put false more

-- specifiers are replaced for an instance only (agenda)
abbrev pub expanded_by : List ℕ → Option (List ℕ × List ℕ × List ℕ) → List ℕ → List ℕ
expanded_by name None text = text
expanded_by name (Some parts) text =
    if length parts.1 == 0 then text else
    replaced (λ letter. text_for (specifier name parts.0 parts.1 letter) letter) false text

-- whether a text contains a byte
abbrev pub has_byte : ℕ → List ℕ → Bool
has_byte mark text = list_any (λ b. b == mark) text

-- a text in the file of a unit with this name, with its specifiers replaced. No unit's name has a newline (systemd.unit(5)), so
-- nothing is replaced for such a name, and no line is broken (agenda)
abbrev pub expanded : List ℕ → List ℕ → List ℕ
expanded name text = if has_byte (byte "\n") name then text else expanded_by name (parts_of name) text
