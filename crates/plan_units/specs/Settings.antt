-- The units that the text of a unit's file wants (systemd.unit(5), [Unit] section options; systemd.syntax(7)).
use Rattle.std.specs.Prelude.{ℕ, ◌-◌, Bool, false, ◌&&◌, ◌||◌, ◌==◌, nat_lt, if◌then◌else◌, List, [], ◌∷◌, ◌++◌, length, slice_index, slice_range, Option, None, Some, codes}
use Rattle.std.specs.List.{after_first, before_first, cons_option, position_or_len}
use Rattle.std.specs.Str.{byte, bytes_eq, is_utf8}
use Rattle.plan_texts.specs.Text.{begins_with, words}
use Rattle.plan_texts.specs.WholeLines.{readable_lines, trimmed}
use Rattle.plan_tree.specs.Contents.{contents_of}
use Rattle.plan_tree.specs.Tree.{Held}
use Rattle.plan_parts.specs.Specifiers.{expanded}
use Rattle.plan_units.specs.Validity.{wanted_unit}

-- ---- a whole line, without blanks at its ends

-- the name between `[` and `]` of the section that a line begins (systemd.syntax(7))
unfoldable pub section_name : List ℕ → Option (List ℕ)
section_name text =
    if begins_with (λ b. b == byte "[") text && (slice_index text (length text - 1) == byte "]")
    then Some (slice_range text 1 (length text - 1))
    else None

-- the key and the value of a setting, before and after the first `=`, without blanks at their ends (systemd.syntax(7))
unfoldable pub setting_of : List ℕ → Option (List ℕ × List ℕ)
setting_of text =
    let is_equals : ℕ → Bool = λ b. b == byte "=" in
    if nat_lt (position_or_len is_equals text) (length text)
    then Some (trimmed (before_first is_equals text), trimmed (after_first is_equals text))
    else None

-- whether the lines after a line are in a section `[Unit]`; names of sections are compared exactly (systemd.syntax(7))
abbrev pub inside_after : Bool → Option (List ℕ) → Bool
inside_after inside None = inside
inside_after inside (Some section) = bytes_eq section (codes "Unit")

-- ---- the names in a setting

-- the settings whose units start with the unit (systemd.unit(5))
abbrev pub is_wanting : List ℕ → Bool
is_wanting key =
    bytes_eq key (codes "Wants") || (bytes_eq key (codes "Requires") || (bytes_eq key (codes "BindsTo") || bytes_eq key (codes "Upholds")))

-- the name that a word means in a file of a unit; what isn't UTF-8 is no name (systemd.unit(5))
unfoldable pub name_of_word : List ℕ → List ℕ → Option (List ℕ)
name_of_word unit word = if is_utf8 (expanded unit word) then wanted_unit unit (expanded unit word) else None

-- the names that words mean in a file of a unit; those that are invalid are ignored (systemd 252)
abbrev pub names_of_words : List ℕ → List (List ℕ) → List (List ℕ)
names_of_words unit [] = []
names_of_words unit (word ∷ more) = cons_option (name_of_word unit word) (names_of_words unit more)

-- the names are the words of the value, so an empty value takes nothing away (systemd.unit(5))
abbrev pub names_of_setting : List ℕ → Option (List ℕ × List ℕ) → List (List ℕ)
names_of_setting unit None = []
names_of_setting unit (Some setting) = if is_wanting setting.0 then names_of_words unit (words setting.1) else []

-- ---- all lines

-- the names in the sections `[Unit]` of whole lines; `inside` says whether the first line is in one
abbrev pub names_of_lines : List ℕ → (inside : Bool) → List (ℕ × List ℕ) → List (List ℕ)
names_of_lines unit inside [] = []
names_of_lines unit inside (line ∷ more) =
    (if inside then names_of_setting unit (setting_of (trimmed line.1)) else [])
    ++ names_of_lines unit (inside_after inside (section_name (trimmed line.1))) more

-- the whole lines of a file that was read (systemd.syntax(7))
abbrev pub lines_of_found : Option (List ℕ) → List (ℕ × List ℕ)
lines_of_found None = []
lines_of_found (Some text) = readable_lines text

-- the whole lines of the file where a path leads; one that can't be read has none (agenda)
abbrev pub lines_at : Held → List ℕ → List (ℕ × List ℕ)
lines_at held path = lines_of_found (contents_of held path)

-- the names that a file of a unit writes, by its path
abbrev pub set_names : Held → List ℕ → List ℕ → List (List ℕ)
set_names held unit path = names_of_lines unit false (lines_at held path)
