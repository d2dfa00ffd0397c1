-- The crontabs of users.
use Rattle.std.specs.Prelude.{ℕ, Bool, true, false, not, ◌&&◌, ◌||◌, ◌==◌, if◌then◌else◌, List, [], ◌∷◌, ◌++◌, codes}
use Rattle.std.specs.Char.{is_ascii_graphic}
use Rattle.std.specs.List.{list_all, list_any}
use Rattle.std.specs.Str.{byte, bytes_eq}
use Rattle.plan_rules.specs.declared.source_kind.SourceKind.TheVariants.{Spool}
use Rattle.plan_tree.specs.declared.links.End.{End}
use Rattle.plan_tree.specs.declared.links.End.TheVariants.{Unknown, Nothing, Found}
use Rattle.plan_tree.specs.declared.tree.Node.{Node}
use Rattle.plan_tree.specs.Place.{child}
use Rattle.plan_tree.specs.Tree.{Held}
use Rattle.plan_machine.specs.declared.spool.SpoolDir.{SpoolDir}
use Rattle.plan_machine.specs.declared.spool.SpoolDir.TheVariants.{Debian, Suse, Fedora}
use Rattle.plan_timers.specs.declared.reports.Why.TheVariants.{BadName, Escape}
use Rattle.plan_machine.specs.Collection.{Sources, has_package, with_file, with_skipped}
use Rattle.plan_machine.specs.Directories.{can_search, is_directory, is_directory_at, look, names_at, with_directory}
use Rattle.plan_machine.specs.Files.{file_at, is_file, lead_of}
use Rattle.plan_machine.specs.Source.{SourceParts}

-- ---- which directory it is

-- the directory that has the users' crontabs, or the directory of these
abbrev pub cron_path : List ℕ
cron_path = codes "var/spool/cron"

-- a directory that can't be searched: nobody can say what is in it
unfoldable pub is_closed : (List ℕ → Node) → End → Bool
is_closed node (Found path) = is_directory (node path) && not (can_search node path)
is_closed node Nothing = false
is_closed node Unknown = false

-- anything counts but a regular file, which may be the crontab of a user who has that name (agenda)
unfoldable pub is_spool : (List ℕ → Node) → End → Bool
is_spool node (Found path) = not (is_file (node path))
is_spool node Nothing = false
is_spool node Unknown = true

-- the directory of the users' crontabs: that of Debian (cron(8)), else of SUSE, else of Fedora and Arch (agenda)
abbrev pub spool_of : (List ℕ → Node) → SpoolDir
spool_of node =
    if is_closed node (look node (codes "var/spool") (codes "cron")) then Fedora else
    if is_spool node (look node cron_path (codes "crontabs")) then Debian else
    if is_spool node (look node cron_path (codes "tabs")) then Suse else
    Fedora

-- the directory that it is in
abbrev pub spool_parent : SpoolDir → List ℕ
spool_parent Debian = cron_path
spool_parent Suse = cron_path
spool_parent Fedora = codes "var/spool"

-- its name
abbrev pub spool_name : SpoolDir → List ℕ
spool_name Debian = codes "crontabs"
spool_name Suse = codes "tabs"
spool_name Fedora = codes "cron"

-- ---- the crontabs in it

abbrev pub is_name_of : List ℕ → List (List ℕ) → Bool
is_name_of name names = list_any (λ other. bytes_eq other name) names

-- the name that a user's jobs get: with `.user` if a package has a crontab of the name, but not if that is the name of an entry
-- (agenda)
abbrev pub user_name : List SourceParts → (names : List (List ℕ)) → List ℕ → List ℕ
user_name sources names name =
    if has_package sources name && not (is_name_of (name ++ codes ".user") names) then name ++ codes ".user" else name

-- no user can have such a name: a colon ends a name, and a newline the line of a user (passwd(5))
abbrev pub is_cut_name : List ℕ → Bool
is_cut_name name = list_any (λ b. b == byte ":" || b == 10) name

-- the name of a job can begin with such a name: it has no blank, no control character, and ASCII alone (agenda)
abbrev pub is_graphic_name : List ℕ → Bool
is_graphic_name name = list_all is_ascii_graphic name

-- a user's crontab, whose name is that of the user: those that begin with `.` are no entries (cron 3.0pl1, database.c). Directories in
-- var/spool/cron are ignored, such as atjobs (agenda)
abbrev pub with_user : Held → (most : ℕ) → (dir : List ℕ) → (names : List (List ℕ)) → Sources → List ℕ → Sources
with_user held most dir names all name =
    let path = child dir name in
    let end = lead_of held.node path in
    if bytes_eq dir cron_path && is_directory_at held.node end then all else
    if is_cut_name name then with_skipped all path BadName else
    if not (is_graphic_name name) then with_skipped all path Escape else
    with_file all Spool path (user_name all.found names name) (file_at held most path end)

abbrev pub with_users : Held → (most : ℕ) → (dir : List ℕ) → (names : List (List ℕ)) → Sources → List (List ℕ) → Sources
with_users held most dir names all [] = all
with_users held most dir names all (name ∷ more) = with_users held most dir names (with_user held most dir names all name) more

abbrev pub with_spool_in : Held → (most : ℕ) → Sources → List ℕ → List ℕ → Sources
with_spool_in held most all dir name =
    let path = child dir name in
    let end = look held.node dir name in
    let names = names_at held end in
    with_users held most path names (with_directory held all path end) names

-- the crontabs of users, in the order of their names
abbrev pub with_spool : Held → (most : ℕ) → Sources → Sources
with_spool held most all =
    let spool = spool_of held.node in
    with_spool_in held most all (spool_parent spool) (spool_name spool)
