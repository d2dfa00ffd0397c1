-- The texts that give a zone: `UTC`, the path of a file, or the name of a zone of the system.
use Rattle.std.specs.Prelude.{ℕ, Bool, ◌&&◌, ◌||◌, ◌==◌, not, if◌then◌else◌, List, codes, length, ◌++◌, Result, Ok, Err}
use Rattle.std.specs.Char.{is_ascii_alphanumeric}
use Rattle.std.specs.List.{list_all}
use Rattle.std.specs.Str.{byte, bytes_eq}
use Rattle.plan_texts.specs.Text.{begins_with, pieces}
use Rattle.plan_zones.specs.declared.zone_fault.ZoneFault.{ZoneFault}
use Rattle.plan_zones.specs.declared.zone_fault.ZoneFault.TheVariants.{BadZoneName}
use Rattle.plan_zones.specs.declared.zone_text.ZoneSource.{ZoneSource}
use Rattle.plan_zones.specs.declared.zone_text.ZoneSource.TheVariants as source

-- where a zone's changes come from: UTC has none, all others are in a file (agenda)
pub data Source : Type 0 where
  Utc : Source
  Path : (path : List ℕ) → Source
  Name : (name : List ℕ) → Source

-- a text that begins with `/` or `.` is a path (agenda)
abbrev pub is_path : List ℕ → Bool
is_path text = begins_with (λ b. (b == byte "/") || (b == byte ".")) text

-- the characters of a zone's name: ASCII letters, digits, `_`, `-` and `+` (tzdata)
abbrev pub is_name_byte : ℕ → Bool
is_name_byte b = is_ascii_alphanumeric b || ((b == byte "_") || ((b == byte "-") || (b == byte "+")))

-- a part of a name has at least one character (agenda)
abbrev pub is_name_part : List ℕ → Bool
is_name_part part = not (length part == 0) && list_all is_name_byte part

-- a zone's name is one or more parts with `/` between them (tzdata)
unfoldable pub is_zone_name : List ℕ → Bool
is_zone_name text = list_all is_name_part (pieces (byte "/") text)

-- what a text gives: `UTC` is UTC, a path is a path, and anything else must be a name (agenda)
unfoldable pub source_of : List ℕ → Result Source ZoneFault
source_of text =
    if bytes_eq text (codes "UTC") then Ok Utc
    else (if is_path text then Ok (Path text)
    else (if is_zone_name text then Ok (Name text) else Err BadZoneName))

-- a source, as the code says it
abbrev pub source_shown : ZoneSource → Source
source_shown source.Utc = Utc
source_shown (source.Path path) = Path path.now
source_shown (source.Name name) = Name name.now

-- a source or an error, as the code says it
abbrev pub result_shown : Result ZoneSource ZoneFault → Result Source ZoneFault
result_shown (Ok found) = Ok (source_shown found)
result_shown (Err fault) = Err fault

-- the file of a zone is in the system's directory of zones, under the zone's name (tzfile(5))
abbrev pub zone_path : List ℕ → List ℕ
zone_path name = codes "/usr/share/zoneinfo/" ++ name
