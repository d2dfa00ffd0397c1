-- Directories of crontabs: whether one is there, and the names in it.
use Rattle.std.specs.Prelude.{ℕ, Bool, true, false, not, if◌then◌else◌, List, [], Option, None, Some, codes}
use Rattle.plan_tree.specs.declared.links.End.{End}
use Rattle.plan_tree.specs.declared.links.End.TheVariants.{Unknown, Nothing, Found}
use Rattle.plan_tree.specs.declared.tree.Node.{Node}
use Rattle.plan_tree.specs.declared.tree.Node.TheVariants.{Directory, Link, Unreadable}
use Rattle.plan_tree.specs.Entries.{entries_of}
use Rattle.plan_tree.specs.Place.{child}
use Rattle.plan_tree.specs.Tree.{Held}
use Rattle.plan_timers.specs.declared.reports.Why.TheVariants.{NotReadable, NotUtf8}
use Rattle.plan_machine.specs.Collection.{Sources, with_skipped}
use Rattle.plan_machine.specs.Files.{lead_of}

-- ---- what is there

abbrev pub is_link : Node → Bool
is_link (Link text) = true
is_link _ = false

abbrev pub is_link_in : (List ℕ → Node) → End → List ℕ → Bool
is_link_in node (Found dir) name = is_link (node (child dir name))
is_link_in node Nothing name = false
is_link_in node Unknown name = false

abbrev pub unless_link : Bool → End → End
unless_link is_link Nothing = if is_link then Unknown else Nothing
unless_link is_link (Found path) = Found path
unless_link is_link Unknown = Unknown

-- where a name in a directory leads. A link that leads nowhere is there all the same, so that is unknown (agenda)
unfoldable pub look : (List ℕ → Node) → List ℕ → List ℕ → End
look node dir name = unless_link (is_link_in node (lead_of node dir) name) (lead_of node (child dir name))

abbrev pub is_missing : End → Bool
is_missing Nothing = true
is_missing (Found path) = false
is_missing Unknown = false

-- ---- the names in it

abbrev pub is_directory : Node → Bool
is_directory Directory = true
is_directory _ = false

-- a path leads to a directory
abbrev pub is_directory_at : (List ℕ → Node) → End → Bool
is_directory_at node (Found path) = is_directory (node path)
is_directory_at node Nothing = false
is_directory_at node Unknown = false

abbrev pub is_unreadable : Node → Bool
is_unreadable Unreadable = true
is_unreadable _ = false

-- the names in a directory can be looked at, as `.` is one of them (path_resolution(7))
abbrev pub can_search : (List ℕ → Node) → List ℕ → Bool
can_search node dir = not (is_unreadable (node (child dir (codes "."))))

-- the entries of a directory that can be listed and searched, and whether these are all
abbrev pub listing_in : Held → List ℕ → Option (List (List ℕ) × Bool)
listing_in held dir = if can_search held.node dir then entries_of (held.names dir) else None

abbrev pub names_of_listing : Option (List (List ℕ) × Bool) → List (List ℕ)
names_of_listing None = []
names_of_listing (Some listing) = listing.0

-- the names in a directory
abbrev pub names_in : Held → List ℕ → List (List ℕ)
names_in held dir = names_of_listing (listing_in held dir)

-- the names in the directory where a path leads
abbrev pub names_at : Held → End → List (List ℕ)
names_at held (Found dir) = names_in held dir
names_at held Nothing = []
names_at held Unknown = []

-- ---- what is skipped of it

-- a name that isn't UTF-8 is skipped (agenda)
abbrev pub with_whole : Sources → List ℕ → Bool → Sources
with_whole all path is_whole = if is_whole then all else with_skipped all path NotUtf8

-- a directory that can't be listed or searched is skipped
abbrev pub with_listing : Sources → List ℕ → Option (List (List ℕ) × Bool) → Sources
with_listing all path None = with_skipped all path NotReadable
with_listing all path (Some listing) = with_whole all path listing.1

-- what is skipped of the directory where a path leads: nothing if it is missing
abbrev pub with_directory : Held → Sources → List ℕ → End → Sources
with_directory held all path (Found dir) = with_listing all path (listing_in held dir)
with_directory held all path Nothing = all
with_directory held all path Unknown = with_skipped all path NotReadable
