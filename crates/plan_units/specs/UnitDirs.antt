-- The directories of a unit: those of its drop-ins, and those of links to units (systemd.unit(5); systemd 252).
use Rattle.std.specs.Prelude.{ℕ, zero, suc, ◌+◌, ◌-◌, ◌&&◌, ◌==◌, nat_lt, if◌then◌else◌, List, [], ◌∷◌, ◌++◌, length, take, drop, slice_index, Option, None, Some}
use Rattle.std.specs.Str.{byte}
use Rattle.plan_units.specs.declared.paths.UnitDir.{UnitDir}
use Rattle.plan_units.specs.Entries.{places_of}
use Rattle.plan_units.specs.UnitNames.{instance_name, template_name, type_of}
use Rattle.plan_parts.specs.NameParts.{parts_of, type_start}

-- ---- the names whose directories are a unit's

-- the parts of a text that end with a `-` at one of its first places, longest first; one at the start of the text doesn't count
unfoldable pub cuts_below : List ℕ → (places : ℕ) → List (List ℕ)
cuts_below text zero = []
cuts_below text (suc place) =
    (if nat_lt 0 place && (slice_index text place == byte "-") then take (place + 1) text ∷ [] else []) ++ cuts_below text place

-- the parts that a text is shortened to: one after the other is cut after its last `-` that is neither the first nor the last
-- character (systemd.unit(5))
abbrev pub cuts_of : List ℕ → List (List ℕ)
cuts_of text = cuts_below text (length text - 1)

-- texts, each with the same end
abbrev pub with_end : List ℕ → List (List ℕ) → List (List ℕ)
with_end end [] = []
with_end end (text ∷ more) = (text ++ end) ∷ with_end end more

-- for a PREFIX: its instance, then its template, then the shorter names of that, which have no `@` (systemd 252)
abbrev pub names_at : List ℕ → List ℕ → List ℕ → List (List ℕ)
names_at instance type prefix =
    instance_name prefix instance type ∷ template_name prefix type ∷ with_end type (cuts_of prefix)

abbrev pub names_of_instance : List ℕ → List ℕ → List (List ℕ) → List (List ℕ)
names_of_instance instance type [] = []
names_of_instance instance type (prefix ∷ more) = names_at instance type prefix ++ names_of_instance instance type more

-- the names for a unit's name, by its parts
abbrev pub dir_names_by : List ℕ → Option (List ℕ × List ℕ × List ℕ) → List (List ℕ)
dir_names_by name None =
    let prefix = take (type_start name) name in
    name ∷ with_end (drop (type_start name) name) (cuts_of prefix)
dir_names_by name (Some parts) =
    if length parts.1 == 0
    then name ∷ with_end parts.2 (cuts_of parts.0)
    else names_of_instance parts.1 parts.2 (parts.0 ∷ cuts_of parts.0)

abbrev pub dir_names : List ℕ → List (List ℕ)
dir_names name = dir_names_by name (parts_of name)

-- the names NAME whose directories NAME.d, NAME.wants and NAME.requires are a unit's: these, and its type (systemd.unit(5))
abbrev pub names_of_dirs : List ℕ → List (List ℕ)
names_of_dirs name = dir_names name ++ type_of name ∷ []

-- ---- the directories

-- the directories of a unit with a suffix such as `.d` or `.wants`: NAME.d by these names, and then TYPE.d, in the directories
-- of units (systemd.unit(5); systemd 252)
abbrev pub unit_dirs : List UnitDir → List ℕ → List ℕ → List UnitDir
unit_dirs dirs name suffix = places_of dirs (dir_names name) suffix ++ places_of dirs (type_of name ∷ []) suffix
