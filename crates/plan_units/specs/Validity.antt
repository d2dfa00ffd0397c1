-- Valid names of units (systemd.unit(5); unit_name_is_valid of systemd 252).
use Rattle.std.specs.Prelude.{ℕ, Bool, not, ◌&&◌, ◌||◌, ◌==◌, nat_le, nat_lt, if◌then◌else◌, List, [], ◌∷◌, length, Option, None, Some, codes}
use Rattle.std.specs.Char.{is_ascii_alphabetic, is_ascii_digit}
use Rattle.std.specs.List.{list_all, list_any}
use Rattle.std.specs.Str.{byte, bytes_eq}
use Rattle.plan_parts.specs.NameParts.{parts_of}
use Rattle.plan_units.specs.UnitNames.{is_template, stem, type_of, wanted_name}

-- the types of units (systemd.unit(5))
abbrev pub unit_types : List (List ℕ)
unit_types =
    codes "service" ∷ codes "socket" ∷ codes "device" ∷ codes "mount" ∷ codes "automount" ∷ codes "swap" ∷ codes "target"
    ∷ codes "path" ∷ codes "timer" ∷ codes "slice" ∷ codes "scope" ∷ []

abbrev pub is_type : List ℕ → Bool
is_type text = list_any (λ type. bytes_eq type text) unit_types

-- the valid characters: ASCII letters, digits and `:`, `-`, `_`, `.`, `\` (systemd.unit(5))
abbrev pub is_valid_byte : ℕ → Bool
is_valid_byte b =
    is_ascii_alphabetic b
    || (is_ascii_digit b
    || ((b == byte ":") || ((b == byte "-") || ((b == byte "_") || ((b == byte ".") || (b == byte "\\"))))))

-- what is before the type, or before the first `@`, has one or more valid characters (systemd.unit(5))
abbrev pub is_prefix : List ℕ → Bool
is_prefix text = nat_lt 0 (length text) && list_all is_valid_byte text

-- an INSTANCE has valid characters, and may have `@` too; that of a template is empty (systemd.unit(5); systemd 252)
abbrev pub is_instance : List ℕ → Bool
is_instance text = list_all (λ b. is_valid_byte b || (b == byte "@")) text

abbrev pub has_valid_parts : List ℕ → Option (List ℕ × List ℕ × List ℕ) → Bool
has_valid_parts name None = is_prefix (stem name)
has_valid_parts name (Some parts) = is_prefix parts.0 && is_instance parts.1

-- a name of a unit or of a template is valid if it has at most 255 characters, a type and valid parts (systemd.unit(5))
unfoldable pub is_valid_name : List ℕ → Bool
is_valid_name name = nat_le (length name) 255 && (is_type (type_of name) && has_valid_parts name (parts_of name))

-- a template is no unit itself (systemd.unit(5))
unfoldable pub is_unit_name : List ℕ → Bool
is_unit_name name = is_valid_name name && not (is_template name)

-- the unit that a name means where a unit wants it, unless that is invalid (systemd 252)
abbrev pub wanted_unit : List ℕ → List ℕ → Option (List ℕ)
wanted_unit unit name = if is_unit_name (wanted_name unit name) then Some (wanted_name unit name) else None
