-- The time zone of a machine (localtime(5)).
use Rattle.std.specs.Prelude.{ℕ, Bool, not, ◌&&◌, ◌||◌, ◌==◌, if◌then◌else◌, List, ◌++◌, length, take, Option, None, Some, codes}
use Rattle.std.specs.Char.{is_ascii_alphanumeric}
use Rattle.std.specs.List.{list_all}
use Rattle.std.specs.Option.{option_and_then, option_map}
use Rattle.std.specs.Str.{byte}
use Rattle.plan_texts.specs.Text.{cut_at, pieces}
use Rattle.plan_tree.specs.declared.links.End.{End}
use Rattle.plan_tree.specs.declared.links.End.TheVariants as end
use Rattle.plan_tree.specs.declared.tree.Node.{Node}
use Rattle.plan_tree.specs.declared.tree.Node.TheVariants as node
use Rattle.plan_tree.specs.Place.{child}
use Rattle.plan_tree.specs.Tree.{Held}
use Rattle.plan_machine.specs.declared.zone.MachineZone.{MachineZone}
use Rattle.plan_machine.specs.declared.zone.MachineZone.TheVariants as machine
use Rattle.plan_machine.specs.Files.{bytes_of_end, lead_of}

-- the zone of a machine: UTC, one with a name and the bytes of its file, one that a file gives, or an unknown one. The bytes are
-- None if the file can't be read
pub data Zone : Type 0 where
  Utc : Zone
  Named : (name : List ℕ) → (bytes : Option (List ℕ)) → Zone
  Local : (bytes : Option (List ℕ)) → Zone
  Unknown : Zone

-- ---- the names of zones

-- the characters of a zone's name: ASCII letters, digits, `_`, `-` and `+`, and `/` between its parts (tzdata)
abbrev pub is_name_byte : ℕ → Bool
is_name_byte b =
    is_ascii_alphanumeric b || ((b == byte "_") || ((b == byte "-") || ((b == byte "+") || (b == byte "/"))))

-- no part of a name is empty (agenda)
abbrev pub are_parts : List ℕ → Bool
are_parts text = list_all (λ part. not (length part == 0)) (pieces (byte "/") text)

-- a zone's name is one or more parts with `/` between them (tzdata)
unfoldable pub is_zone_name : List ℕ → Bool
is_zone_name text = list_all is_name_byte text && are_parts text

abbrev pub name_or_none : List ℕ → Option (List ℕ)
name_or_none text = if is_zone_name text then Some text else None

-- the zone's name in the text of a link: what follows the first `zoneinfo/` (localtime(5))
abbrev pub name_in : List ℕ → Option (List ℕ)
name_in text = option_and_then (λ parts. name_or_none parts.1) (cut_at (codes "zoneinfo/") text)

-- ---- the files of zones

-- the file of a zone is in usr/share/zoneinfo, under the zone's name (tzfile(5))
abbrev pub database_path : List ℕ → List ℕ
database_path name = codes "usr/share/zoneinfo/" ++ name

abbrev pub database_bytes : Held → (most : ℕ) → List ℕ → Option (List ℕ)
database_bytes held most name = bytes_of_end held most (lead_of held.node (database_path name))

-- ---- the zone

abbrev pub zone_of_name : Held → (most : ℕ) → Option (List ℕ) → Zone
zone_of_name held most None = Unknown
zone_of_name held most (Some name) = Named name (database_bytes held most name)

-- the zone that the text of a link names (localtime(5))
abbrev pub zone_of_link : Held → (most : ℕ) → List ℕ → Zone
zone_of_link held most text = zone_of_name held most (name_in text)

-- the zone by what has the path of etc/localtime: UTC if nothing has it (localtime(5)); a file that is no link has no name
-- (agenda)
abbrev pub zone_by : Held → (most : ℕ) → List ℕ → Node → Zone
zone_by held most path node.Missing = Utc
zone_by held most path (node.Link text) = zone_of_link held most text
zone_by held most path (node.File is_empty) = Local (option_map (take most) (held.bytes path))
zone_by held most path node.Unreadable = Unknown
zone_by held most path node.Directory = Unknown
zone_by held most path node.Null = Unknown
zone_by held most path node.Other = Unknown

abbrev pub zone_at : Held → (most : ℕ) → List ℕ → Zone
zone_at held most path = zone_by held most path (held.node path)

-- the zone by where etc leads
abbrev pub zone_in : Held → (most : ℕ) → End → Zone
zone_in held most (end.Found dir) = zone_at held most (child dir (codes "localtime"))
zone_in held most end.Nothing = Utc
zone_in held most end.Unknown = Unknown

-- the zone of a machine, by its etc/localtime (localtime(5))
abbrev pub machine_zone : Held → (most : ℕ) → Zone
machine_zone held most = zone_in held most (lead_of held.node (codes "etc"))

-- ---- the zone in the code

-- a machine's zone, as the code says it
abbrev pub zone_shown : MachineZone → Zone
zone_shown machine.Utc = Utc
zone_shown (machine.Named name bytes) = Named name (option_map (λ read. read.items) bytes)
zone_shown (machine.Local bytes) = Local (option_map (λ read. read.items) bytes)
zone_shown machine.Unknown = Unknown
