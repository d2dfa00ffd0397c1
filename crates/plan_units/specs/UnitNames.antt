-- Names of units: PREFIX.TYPE, PREFIX@.TYPE of a template, PREFIX@INSTANCE.TYPE of an instance (systemd.unit(5)).
use Rattle.std.specs.Prelude.{ℕ, ◌-◌, Bool, true, false, not, ◌&&◌, ◌||◌, ◌==◌, if◌then◌else◌, List, ◌∷◌, ◌++◌, length, take, drop, Option, None, Some}
use Rattle.std.specs.List.{suffix_len}
use Rattle.std.specs.Str.{byte, bytes_eq}
use Rattle.plan_parts.specs.NameParts.{parts_of, type_start}

-- ---- the parts of a name

-- what is before the type
abbrev pub stem : List ℕ → List ℕ
stem name = take (type_start name) name

-- the type with its `.`
abbrev pub ending : List ℕ → List ℕ
ending name = drop (type_start name) name

-- the type: what follows the last `.`
abbrev pub type_of : List ℕ → List ℕ
type_of name = drop (length name - suffix_len (λ b. not (b == byte ".")) name) name

-- whether a name is that of a template, which has no INSTANCE
abbrev pub is_template_by : Option (List ℕ × List ℕ × List ℕ) → Bool
is_template_by None = false
is_template_by (Some parts) = length parts.1 == 0

abbrev pub is_template : List ℕ → Bool
is_template name = is_template_by (parts_of name)

-- ---- templates and instances

-- the name of a template by its PREFIX and its TYPE with a `.`
abbrev pub template_name : List ℕ → List ℕ → List ℕ
template_name prefix type = prefix ++ byte "@" ∷ type

-- the name of an instance by its PREFIX, its INSTANCE and its TYPE with a `.`
abbrev pub instance_name : List ℕ → List ℕ → List ℕ → List ℕ
instance_name prefix instance type = prefix ++ byte "@" ∷ instance ++ type

-- the template of an instance; None for another name
abbrev pub template_by : Option (List ℕ × List ℕ × List ℕ) → Option (List ℕ)
template_by None = None
template_by (Some parts) = if length parts.1 == 0 then None else Some (template_name parts.0 parts.2)

abbrev pub template_of : List ℕ → Option (List ℕ)
template_of name = template_by (parts_of name)

-- a name, or for a template its instance
abbrev pub filled_by : Option (List ℕ × List ℕ × List ℕ) → List ℕ → List ℕ → List ℕ
filled_by None instance name = name
filled_by (Some parts) instance name =
    if length parts.1 == 0 then instance_name parts.0 instance parts.2 else name

abbrev pub filled : List ℕ → List ℕ → List ℕ
filled instance name = filled_by (parts_of name) instance name

-- ---- aliases

-- for an instance, the instance of a template that has the same INSTANCE; otherwise the other name itself
abbrev pub named_by : Option (List ℕ × List ℕ × List ℕ) → List ℕ → List ℕ
named_by None other = other
named_by (Some parts) other = filled parts.1 other

-- the unit that another name means for a name: if that is a template, its instance (systemd.unit(5), on aliases)
abbrev pub named_for : List ℕ → List ℕ → List ℕ
named_for name other = named_by (parts_of name) other

-- a name without `@` is an alias of one without; a template is one of a template; and an instance is one of a template, or of
-- an instance that has the same INSTANCE (systemd 252)
abbrev pub is_alias_by : Option (List ℕ × List ℕ × List ℕ) → Option (List ℕ × List ℕ × List ℕ) → Bool
is_alias_by None None = true
is_alias_by (Some name) (Some other) = length other.1 == 0 || bytes_eq name.1 other.1
is_alias_by _ _ = false

-- whether a name can be an alias of another one: both have the same type (systemd.unit(5), on aliases)
abbrev pub can_be_alias : List ℕ → List ℕ → Bool
can_be_alias name other = bytes_eq (ending name) (ending other) && is_alias_by (parts_of name) (parts_of other)

-- ---- templates that are wanted

-- the INSTANCE that a unit gives to templates: its own, or else what is before its type; no unit is a template (systemd 252)
abbrev pub given_by : List ℕ → Option (List ℕ × List ℕ × List ℕ) → List ℕ
given_by unit None = stem unit
given_by unit (Some parts) = parts.1

-- the unit that a name means where a unit wants it: if it is a template, its instance (systemd 252)
abbrev pub wanted_name : List ℕ → List ℕ → List ℕ
wanted_name unit name = filled (given_by unit (parts_of unit)) name
