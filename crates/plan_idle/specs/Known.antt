-- The places of a tree where what is found is known: only root can change it, and it is the same when a job runs (agenda).
use Rattle.std.specs.Prelude.{ℕ, ◌+◌, Bool, true, false, not, ◌&&◌, ◌||◌, ◌==◌, nat_eq, if◌then◌else◌, bit_and, List, [], ◌∷◌, drop, filter, length, take, codes, Option, Some, None}
use Rattle.std.specs.Char.{is_ascii_digit}
use Rattle.std.specs.List.{filter_map, list_any, starts_with}
use Rattle.std.specs.Option.{option_map}
use Rattle.std.specs.Str.{byte, is_utf8}
use Rattle.plan_texts.specs.Limits.{most_bytes}
use Rattle.plan_texts.specs.Lines.{cut_word, is_too_large, lines}
use Rattle.plan_texts.specs.Text.{begins_with}
use Rattle.plan_tree.specs.declared.links.End.{End}
use Rattle.plan_tree.specs.declared.links.End.TheVariants as end
use Rattle.plan_tree.specs.declared.tree.Node.{Node}
use Rattle.plan_tree.specs.declared.tree.Node.TheVariants as node
use Rattle.plan_tree.specs.declared.tree.Status.{Status}
use Rattle.plan_tree.specs.Contents.{contents_of}
use Rattle.plan_tree.specs.Links.{end_of}
use Rattle.plan_tree.specs.Tree.{Held}

-- where a path leads (path_resolution(7)). It has a name of its own, so that the prover doesn't follow paths that are known
unfoldable pub lead_of : (List ℕ → Node) → List ℕ → End
lead_of node path = end_of node path

-- the first `most` bytes of the file where a path leads
unfoldable pub bytes_of : Held → (path : List ℕ) → (most : ℕ) → Option (List ℕ)
bytes_of held path most = option_map (take most) (contents_of held path)

-- a place is this directory or below it; all are below the root
abbrev pub goes_below : (dir rest : List ℕ) → Bool
goes_below dir [] = true
goes_below dir (b ∷ rest) = (length dir == 0) || (b == byte "/")

abbrev pub is_within : (place dir : List ℕ) → Bool
is_within place dir = starts_with nat_eq place dir && goes_below dir (drop (length dir) place)

-- ---- mount points

abbrev pub begins_with_digit : Option (List ℕ) → Bool
begins_with_digit None = false
begins_with_digit (Some text) = begins_with is_ascii_digit text

-- the machine runs: proc/uptime begins with a number (proc(5))
abbrev pub runs : Held → Bool
runs held = begins_with_digit (bytes_of held (codes "proc/uptime") 1)

-- the mount point of a line, which is its second field; a line that begins with `#` is a comment (fstab(5))
abbrev pub point_after : Option (List ℕ × List ℕ) → Option (List ℕ)
point_after None = None
point_after (Some word) = if begins_with (λ b. b == byte "/") word.0 then Some word.0 else None

abbrev pub mount_point : Option (List ℕ × List ℕ) → Option (List ℕ)
mount_point None = None
mount_point (Some word) = if begins_with (λ b. b == byte "#") word.0 then None else point_after (cut_word word.1)

-- a tree in which what is missing is a directory, as systemd makes it for a mount point
abbrev pub filled_node : Node → Node
filled_node node.Missing = node.Directory
filled_node other = other

abbrev pub filled : Held → Held
filled held = record held { node = λ path. filled_node (held.node path) }

-- the place of a mount point: that of `/` doesn't count, and what can't be followed may be anywhere
abbrev pub place_of_end : End → Option (List ℕ)
place_of_end (end.Found place) = if length place == 0 then None else Some place
place_of_end end.Nothing = None
place_of_end end.Unknown = Some []

abbrev pub place_of_point : Held → Option (List ℕ) → Option (List ℕ)
place_of_point held None = None
place_of_point held (Some point) = place_of_end (lead_of (filled held).node point)

abbrev pub mount_on : Held → (line : List ℕ) → Option (List ℕ)
mount_on held line = place_of_point held (mount_point (cut_word line))

-- the mount points of the text of etc/fstab; all places are at one if it can't be read as a text
abbrev pub text_mounts : Held → (text : List ℕ) → List (List ℕ)
text_mounts held text =
    if is_too_large text then [] ∷ [] else if is_utf8 text then filter_map (mount_on held) (lines text) else [] ∷ []

abbrev pub mounts_in : Held → Option (List ℕ) → List (List ℕ)
mounts_in held None = [] ∷ []
mounts_in held (Some text) = text_mounts held text

abbrev pub mounts_by : Held → End → List (List ℕ)
mounts_by held end.Nothing = []
mounts_by held _ = mounts_in held (bytes_of held (codes "etc/fstab") (most_bytes + 1))

-- the places where something else may be mounted when a job runs: on a machine that runs, all is mounted already (agenda)
abbrev pub mounts_of : Held → List (List ℕ)
mounts_of held = if runs held then [] else mounts_by held (lead_of held.node (codes "etc/fstab"))

-- ---- the directories of the system

abbrev pub all_tops : List (List ℕ)
all_tops =
    codes "usr" ∷ codes "bin" ∷ codes "sbin" ∷ codes "lib" ∷ codes "lib64" ∷ codes "etc" ∷ codes "opt" ∷ []

abbrev pub is_listed : Option (List (List ℕ) × Bool) → Bool
is_listed None = false
is_listed (Some listing) = not (length listing.0 == 0)

abbrev pub has_names_at : Held → End → Bool
has_names_at held (end.Found dir) = is_listed (held.names dir)
has_names_at held _ = false

-- a path leads to a directory that has a name in it: without one another disk may be mounted there (agenda)
abbrev pub has_names : Held → (path : List ℕ) → Bool
has_names held path = has_names_at held (lead_of held.node path)

-- ---- who may change and search a directory

-- root owns the root directory: otherwise the files are those of a copy that another user made (agenda)
abbrev pub owners_count : Option Status → Bool
owners_count None = false
owners_count (Some status) = status.owner == 0

-- it is root's, and neither its group nor others may write to it, if owners count (inode(7))
abbrev pub is_roots : (count : Bool) → Option Status → Bool
is_roots false status = true
is_roots true None = false
is_roots true (Some status) = (status.owner == 0) && (bit_and status.mode 18 == 0)

-- the user may search a directory with this status: root may, and others if everybody may (inode(7))
abbrev pub is_open : (is_root : Bool) → Option Status → Bool
is_open true status = true
is_open false None = false
is_open false (Some status) = bit_and status.mode 73 == 73

-- the same for reading it
abbrev pub is_readable : (is_root : Bool) → Option Status → Bool
is_readable true status = true
is_readable false None = false
is_readable false (Some status) = bit_and status.mode 292 == 292

-- a user other than root may execute a file if all execute bits are set, and may not if none is (inode(7))
abbrev pub execute_status : (is_root : Bool) → Option Status → Option Status
execute_status true status = status
execute_status false None = None
execute_status false (Some status) =
    if (bit_and status.mode 73 == 73) || (bit_and status.mode 73 == 0) then Some status else None

-- ---- the known places

-- the status of the root, the directories of the system in which names are, and the places of the mount points
pub record Places : Type 0 where
  pub root : Option Status
  pub tops : List (List ℕ)
  pub mounts : List (List ℕ)

unfoldable pub places_of : Held → Places
places_of held = record { root = held.status []; tops = filter (has_names held) all_tops; mounts = mounts_of held }

-- a place is below a directory of the system and no mount point, or in usr alone
abbrev pub is_known : Places → (is_root only_usr : Bool) → (place : List ℕ) → Bool
is_known places is_root only_usr place =
    (is_roots (owners_count places.root) places.root && is_open is_root places.root)
    && (list_any (is_within place) places.tops
    && (not (list_any (is_within place) places.mounts) && (not only_usr || is_within place (codes "usr"))))

-- what is known to be at such a place
abbrev pub known_node : Places → (is_root : Bool) → Node → Option Status → Node
known_node places is_root node.Missing status = node.Missing
known_node places is_root node.Unreadable status = node.Unreadable
known_node places is_root (node.Link text) status = node.Link text
known_node places is_root node.Directory status =
    if is_roots (owners_count places.root) status && is_open is_root status then node.Directory else node.Unreadable
known_node places is_root (node.File is_empty) status =
    if is_roots (owners_count places.root) status then node.File is_empty else node.Unreadable
known_node places is_root node.Null status =
    if is_roots (owners_count places.root) status then node.Null else node.Unreadable
known_node places is_root node.Other status =
    if is_roots (owners_count places.root) status then node.Other else node.Unreadable

abbrev pub known_at : Places → (is_root only_usr : Bool) → Held → (place : List ℕ) → Node
known_at places is_root only_usr held place =
    if is_known places is_root only_usr place
    then known_node places is_root (held.node place) (held.status place) else node.Unreadable

-- a tree as a user sees it, who may read only some directories and execute only some files
abbrev pub seen_by : (is_root : Bool) → Held → Held
seen_by is_root held = record {
  node = held.node;
  names = λ place. if is_readable is_root (held.status place) then held.names place else None;
  status = λ place. execute_status is_root (held.status place);
  bytes = held.bytes;
}

-- the same, where all else is unreadable: no path leads through it, so what a path leads to is known
abbrev pub known_in : Places → (is_root only_usr : Bool) → Held → Held
known_in places is_root only_usr held = record (seen_by is_root held) { node = known_at places is_root only_usr held }
