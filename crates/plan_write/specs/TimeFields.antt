-- The times in the lines of answers (agenda).
use Rattle.std.specs.Prelude.{ℕ, if◌then◌else◌, List, [], ◌++◌, codes, Option, None, Some, option_map}
use Rattle.plan_rules.specs.declared.NamedZone.{NamedZone}
use Rattle.plan_sets.specs.Moment.{moment_text_of}
use Rattle.plan_write.specs.LocalTimes.{local_text}
use Rattle.plan_write.specs.declared.formats.Format.{Format}
use Rattle.plan_write.specs.declared.time_fields.TimeField.{TimeField}
use Rattle.plan_write.specs.declared.time_fields.TimeField.TheVariants.{Start, Latest, From, Until, First, Last}

-- a second in UTC, or by the clock of a zone if one is given
abbrev pub time_text : (local : Option NamedZone) → ℕ → List ℕ
time_text None n = moment_text_of n
time_text (Some zone) n = local_text zone.clock n

-- ---- text

-- a time, or `none`
abbrev pub text_or_none : Option (List ℕ) → List ℕ
text_or_none None = codes "none"
text_or_none (Some text) = text

-- a time, or `none`, and a tab after it
abbrev pub time_column : (local : Option NamedZone) → (at : Option ℕ) → List ℕ
time_column local at = text_or_none (option_map (time_text local) at) ++ codes "\t"

-- ---- JSON

-- what opens the member of a time: the first member opens the object too (RFC 8259, section 4)
abbrev pub opening : TimeField → List ℕ
opening Start = codes "{\"start\":"
opening Latest = codes ",\"latest\":"
opening From = codes "{\"from\":"
opening Until = codes ",\"until\":"
opening First = codes "{\"first\":"
opening Last = codes ",\"last\":"

-- what opens the member of the same time by the clock of a zone
abbrev pub local_opening : TimeField → List ℕ
local_opening Start = codes ",\"local\":"
local_opening Latest = codes ",\"latest_local\":"
local_opening From = codes ",\"from_local\":"
local_opening Until = codes ",\"until_local\":"
local_opening First = codes ",\"first_local\":"
local_opening Last = codes ",\"last_local\":"

-- a time as a string, whose bytes all stand for themselves; no time is null (RFC 8259, sections 3 and 7)
abbrev pub time_value : Option (List ℕ) → List ℕ
time_value None = codes "null"
time_value (Some text) = codes "\"" ++ (text ++ codes "\"")

-- the member of the time by the clock of a zone, if one is given
abbrev pub local_member : (local : Option NamedZone) → TimeField → (at : Option ℕ) → List ℕ
local_member None field at = []
local_member (Some zone) field at = local_opening field ++ time_value (option_map (local_text zone.clock) at)

-- the members of a time: in UTC, and then by the clock of a zone
abbrev pub time_members : (local : Option NamedZone) → TimeField → (at : Option ℕ) → List ℕ
time_members local field at = opening field ++ (time_value (option_map moment_text_of at) ++ local_member local field at)

-- ---- both

-- a time in a line
abbrev pub field_text : Format → TimeField → (at : Option ℕ) → List ℕ
field_text format field at = if format.json then time_members format.local field at else time_column format.local at
