-- Which file counts for a unit's name (systemd.unit(5)).
use Rattle.std.specs.Prelude.{ℕ, ◌+◌, ◌-◌, Bool, not, ◌&&◌, ◌||◌, ◌==◌, nat_eq, nat_lt, if◌then◌else◌, List, [], ◌∷◌, ◌++◌, length, drop, Option, None, Some}
use Rattle.std.specs.List.{list_any, starts_with, suffix_len}
use Rattle.std.specs.Str.{byte, bytes_eq}
use Rattle.plan_tree.specs.declared.tree.Node.{Node}
use Rattle.plan_tree.specs.declared.tree.Node.TheVariants.{Missing, Unreadable, File, Directory, Link, Null, Other}
use Rattle.plan_tree.specs.Links.{is_here, is_up}
use Rattle.plan_tree.specs.Place.{child, names_of, parent, start}
use Rattle.plan_units.specs.declared.file.UnitFile.{UnitFile}
use Rattle.plan_units.specs.declared.paths.UnitDir.{UnitDir}
use Rattle.plan_units.specs.SearchPath.{is_of_system, unit_paths}
use Rattle.plan_units.specs.UnitNames.{can_be_alias, named_for, template_of}
use Rattle.plan_units.specs.Validity.{is_unit_name, is_valid_name}

-- ---- where a link leads by its names alone

-- names are read without a look at the tree (agenda)
abbrev pub lead_from : List ℕ → List (List ℕ) → List ℕ
lead_from dir [] = dir
lead_from dir (name ∷ rest) = lead_from (if is_here name then dir else if is_up name then parent dir else child dir name) rest

-- where the text of a link in a directory leads
abbrev pub lead : List ℕ → List ℕ → List ℕ
lead dir text = lead_from (start dir text) (names_of text)

-- the last name of a path
abbrev pub last_name : List ℕ → List ℕ
last_name path = drop (length path - suffix_len (λ b. not (b == byte "/")) path) path

-- a path is below a directory
abbrev pub is_below : List ℕ → List ℕ → Bool
is_below path dir = starts_with nat_eq path (dir ++ byte "/" ∷ []) && nat_lt (length dir + 1) (length path)

-- a path is below a directory by the path of that, or by where that leads
abbrev pub is_below_dir : List ℕ → UnitDir → Bool
is_below_dir path dir = is_below path dir.path || is_below path dir.real

-- a path is below the search path: that of the system's units as a whole, or the directories of a user's units that exist
-- (systemd.unit(5); (agenda))
abbrev pub is_unit_path : List UnitDir → List ℕ → Bool
is_unit_path dirs path =
    if is_of_system dirs
    then list_any (λ dir. is_below path dir) unit_paths
    else list_any (λ dir. is_below_dir path dir) dirs

-- ---- the file of a name

-- the file of a name in a directory
abbrev pub file_at : UnitDir → List ℕ → Option (List ℕ) → UnitFile
file_at dir name alias = record { path = child dir.path name; real = child dir.real name; alias = alias }

-- a link to another name below the search path is an alias. One to an invalid name, or to one for which it can't be an alias,
-- doesn't count, nor one to the same name, nor one of an instance to its template (systemd.unit(5); systemd 252; (agenda))
abbrev pub file_by_lead : List UnitDir → UnitDir → List ℕ → List ℕ → Option UnitFile
file_by_lead dirs dir name path =
    if not (is_unit_path dirs path) then Some (file_at dir name None) else
    if not (is_valid_name (last_name path) && can_be_alias name (last_name path)) then None else
    if bytes_eq (named_for name (last_name path)) name then None else
    Some (file_at dir name (Some (last_name path)))

-- what counts in a directory; a directory of that name doesn't (systemd.unit(5))
abbrev pub file_by : Node → List UnitDir → UnitDir → List ℕ → Option UnitFile
file_by Missing dirs dir name = None
file_by Unreadable dirs dir name = None
file_by Directory dirs dir name = None
file_by (Link text) dirs dir name = file_by_lead dirs dir name (lead dir.path text)
file_by (File is_empty) dirs dir name = Some (file_at dir name None)
file_by Null dirs dir name = Some (file_at dir name None)
file_by Other dirs dir name = Some (file_at dir name None)

abbrev pub or_next : Option UnitFile → Option UnitFile → Option UnitFile
or_next None next = next
or_next (Some file) next = Some file

-- the first of some directories of a search path counts that has a file of the name (systemd.unit(5))
abbrev pub file_among : (List ℕ → Node) → (dirs some : List UnitDir) → List ℕ → Option UnitFile
file_among node dirs [] name = None
file_among node dirs (dir ∷ more) name = or_next (file_by (node (child dir.real name)) dirs dir name) (file_among node dirs more name)

-- the first of all of them
abbrev pub file_of_name : (List ℕ → Node) → List UnitDir → List ℕ → Option UnitFile
file_of_name node dirs name = file_among node dirs dirs name

-- for an instance without a file, the one of its template counts (systemd.unit(5))
abbrev pub file_of_template : (List ℕ → Node) → List UnitDir → Option (List ℕ) → Option UnitFile
file_of_template node dirs None = None
file_of_template node dirs (Some template) = file_of_name node dirs template

-- for a name that is invalid or that of a template no file counts
abbrev pub file_of_unit : (List ℕ → Node) → List UnitDir → List ℕ → Option UnitFile
file_of_unit node dirs name =
    if is_unit_name name
    then or_next (file_of_name node dirs name) (file_of_template node dirs (template_of name))
    else None
