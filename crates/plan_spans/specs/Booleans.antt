-- The booleans of settings (systemd.syntax(7)).
use Rattle.std.specs.Prelude.{ℕ, Bool, true, false, if◌then◌else◌, List, [], ◌∷◌, codes, Option, Some, None, unwrap_or}
use Rattle.std.specs.List.{list_any}
use Rattle.std.specs.Str.{bytes_eq, str_eq_ignore_ascii_case}

-- the values that are true and false, whatever their case (parse_boolean of systemd 252)
abbrev pub true_values : List (List ℕ)
true_values = codes "1" ∷ codes "yes" ∷ codes "y" ∷ codes "true" ∷ codes "t" ∷ codes "on" ∷ []

abbrev pub false_values : List (List ℕ)
false_values = codes "0" ∷ codes "no" ∷ codes "n" ∷ codes "false" ∷ codes "f" ∷ codes "off" ∷ []

-- a value is one of these
abbrev pub is_true : List ℕ → Bool
is_true value = list_any (str_eq_ignore_ascii_case value) true_values

abbrev pub is_false : List ℕ → Bool
is_false value = list_any (str_eq_ignore_ascii_case value) false_values

-- the boolean of a value; no other value is one
abbrev pub boolean : List ℕ → Option Bool
boolean value = if is_true value then Some true else (if is_false value then Some false else None)

-- the boolean of a setting, its key and its value, that has this key
abbrev pub boolean_of : (key : List ℕ) → (setting : List ℕ × List ℕ) → Option Bool
boolean_of key setting = if bytes_eq setting.0 key then boolean setting.1 else None

-- the boolean of a key after one more setting; a value that isn't a boolean is ignored, and so is an empty one (config_parse_bool of
-- systemd 252)
abbrev pub boolean_after : (key : List ℕ) → Bool → (setting : List ℕ × List ℕ) → Bool
boolean_after key before setting = unwrap_or (boolean_of key setting) before
