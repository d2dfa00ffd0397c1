-- What decides whether Debian's cron reads the file of a crontab: who owns it, its mode, its links (cron 3.0pl1, database.c).
use Rattle.std.specs.Prelude.{ℕ, Bool, true, false, ◌==◌, if◌then◌else◌, List, [], Option, None, Some}
use Rattle.std.specs.Option.{option_map_or}
use Rattle.plan_owners.specs.declared.looks.Look.{Look}
use Rattle.plan_owners.specs.Paths.{is_link, lead_of, name_of_path}
use Rattle.plan_tree.specs.declared.links.End.{End}
use Rattle.plan_tree.specs.declared.links.End.TheVariants.{Unknown, Nothing, Found}
use Rattle.plan_tree.specs.declared.tree.Status.{Status}
use Rattle.plan_tree.specs.Place.{child, parent}
use Rattle.plan_tree.specs.Tree.{Held}

-- the status at the end of a path
abbrev pub status_at : Held → End → Option Status
status_at held (Found real) = held.status real
status_at held Nothing = None
status_at held Unknown = None

-- what is seen of what has a path, if the file where it leads has this status; only of a link its own status is seen
abbrev pub link_status_by : (is_link : Bool) → Option Status → Option Status
link_status_by is_link status = if is_link then status else None

abbrev pub look_with : Held → (path : List ℕ) → (file : Option Status) → Look
look_with held path file = record {
  is_link = is_link (held.node path);
  link = link_status_by (is_link (held.node path)) (held.status path);
  file = file;
}

-- the same for a name in a directory, whose links are followed
abbrev pub look_in : Held → (dir : End) → (name : List ℕ) → (file : End) → Look
look_in held (Found dir) name file = look_with held (child dir name) (status_at held file)
look_in held Nothing name file = record { is_link = false; link = None; file = status_at held file }
look_in held Unknown name file = record { is_link = false; link = None; file = status_at held file }

-- what is seen of the file with a path
unfoldable pub look_at : Held → List ℕ → Look
look_at held path = look_in held (lead_of held.node (parent path)) (name_of_path path) (lead_of held.node path)

-- ---- the root

abbrev pub is_root_owner : Status → Bool
is_root_owner status = status.owner == 0

-- owners and modes count if root owns the root directory: otherwise the files are those of a copy that another user made (agenda)
unfoldable pub owners_count : Held → Bool
owners_count held = option_map_or is_root_owner (held.status []) false
