-- The zone that may be meant by a name that no zone has. All of it is our choice (agenda).
use Rattle.std.specs.Prelude.{◌≡◌, ℕ, Bool, if◌then◌else◌, List, [], ◌∷◌, filter, codes, Option, None, Some, Ok, Err}
use Rattle.std.specs.List.{filter_map}
use Rattle.std.specs.Option.{option_and_then, option_map}
use Rattle.std.specs.Str.{bytes_eq, str_eq_ignore_ascii_case}
use Rattle.plan_rules.specs.FileText.{text_reading}
use Rattle.plan_rules.specs.LineFaults.{TextReading}
use Rattle.plan_texts.specs.Lines.{cut_word, lines}
use Rattle.plan_zones.specs.ZoneTexts.{zone_path}
use Rattle.agenda_faults.specs.declared.faults.Failure.TheVariants.{Run}
use Rattle.agenda_faults.specs.declared.faults.RunFault.TheVariants as run
use Rattle.agenda_sources.specs.Name.{file_name}
use Rattle.agenda_inputs.specs.EventZones.{looked_up}
use Rattle.agenda_inputs.specs.Files.{Held, IsFrontOf, IsUnsure, most_read}
use Rattle.agenda_inputs.specs.Steps.{Step, computes, gives, ◌>>=◌}

-- ---- the names of the zone database

-- the source of the zone database, which is beside the zones' files (zic(8))
abbrev pub database_path : List ℕ
database_path = zone_path (codes "tzdata.zi")

-- the first and the second word of a text
abbrev pub first_word : List ℕ → Option (List ℕ)
first_word text = option_map (λ parts. parts.0) (cut_word text)

abbrev pub second_word : List ℕ → Option (List ℕ)
second_word text = option_and_then (λ parts. first_word parts.1) (cut_word text)

-- the name in a line, by its first word and what follows that: `Z NAME ..` is a zone, `L TARGET NAME` a link to one (zic(8))
abbrev pub name_after : List ℕ × List ℕ → Option (List ℕ)
name_after parts =
    if bytes_eq parts.0 (codes "Z") then first_word parts.1
    else (if bytes_eq parts.0 (codes "L") then second_word parts.1 else None)

-- the name of a zone or of a link in a line, if it has one
unfoldable pub name_in_line : List ℕ → Option (List ℕ)
name_in_line line = option_and_then name_after (cut_word line)

-- the names of the zone database, by the lines of its source
abbrev pub names_in_lines : List (List ℕ) → List (List ℕ)
names_in_lines lines = filter_map name_in_line lines

-- ---- the name that may be meant

-- whether a name ends in the same part as a text, in any case of ASCII letters: what follows the last `/`
abbrev pub ends_alike : (text : List ℕ) → (name : List ℕ) → Bool
ends_alike text name = str_eq_ignore_ascii_case (file_name name) (file_name text)

-- the element of a list that has no other
abbrev pub only_one : {A : Type 0} → List A → Option A
only_one (x ∷ []) = Some x
only_one other = None

-- the one name that ends like a text; None if no name does, or if several do
abbrev pub suggested : (names : List (List ℕ)) → (text : List ℕ) → Option (List ℕ)
suggested names text = only_one (filter (ends_alike text) names)

-- the same, by the source of the zone database: none if it is too large or isn't UTF-8
abbrev pub suggested_by : TextReading (List ℕ) → (text : List ℕ) → Option (List ℕ)
suggested_by (Ok source) text = suggested (names_in_lines (lines source)) text
suggested_by (Err fault) text = None

-- the same, by the bytes of the source, if it can be read
abbrev pub suggested_if : Option (List ℕ) → (text : List ℕ) → Option (List ℕ)
suggested_if None text = None
suggested_if (Some bytes) text = suggested_by (text_reading bytes) text

-- ---- steps

-- the first bytes of the source of the zone database, if it can be read
abbrev pub database_read : Held → Step (Option (List ℕ))
database_read held (Ok (Some bytes)) = IsFrontOf (held database_path).bytes most_read bytes
database_read held (Ok None) = IsUnsure (held database_path)
database_read held (Err failure) = failure ≡ Run run.NoMemory

-- a name, if its zone can be used
abbrev pub usable : Held → Option (List ℕ) → Step (Option (List ℕ))
usable held None = gives None
usable held (Some name) = do
  zone ← looked_up held name
  gives (option_map (λ zone. zone.name) zone)

-- the zone that may be meant by a text
abbrev pub suggestion : Held → (text : List ℕ) → Step (Option (List ℕ))
suggestion held text = do
  bytes ← database_read held
  name ← computes (suggested_if bytes text)
  usable held name
