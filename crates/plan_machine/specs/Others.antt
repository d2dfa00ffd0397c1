-- What starts jobs but isn't planned (agenda).
use Rattle.std.specs.Prelude.{ℕ, Bool, true, false, not, ◌&&◌, ◌||◌, nat_eq, if◌then◌else◌, List, [], ◌∷◌, ◌++◌, Option, None, Some, codes}
use Rattle.std.specs.List.{ends_with, list_any}
use Rattle.std.specs.Str.{bytes_eq}
use Rattle.plan_tree.specs.declared.links.End.{End}
use Rattle.plan_tree.specs.declared.links.End.TheVariants.{Unknown, Nothing, Found}
use Rattle.plan_tree.specs.declared.tree.Node.{Node}
use Rattle.plan_tree.specs.declared.tree.Node.TheVariants.{Directory, Link}
use Rattle.plan_tree.specs.Place.{child}
use Rattle.plan_tree.specs.Tree.{Held}
use Rattle.plan_timers.specs.declared.reports.NotPlanned.{NotPlanned}
use Rattle.plan_timers.specs.declared.reports.Unplanned.TheVariants.{Anacron, AtJobs, UserTimers}
use Rattle.plan_machine.specs.Directories.{is_directory, names_at, names_in}
use Rattle.plan_users.specs.Managers.{homes_of}
use Rattle.plan_machine.specs.Files.{is_file, lead_of}

-- ---- anacron

abbrev pub is_file_at : (List ℕ → Node) → End → Bool
is_file_at node (Found path) = is_file (node path)
is_file_at node Nothing = false
is_file_at node Unknown = false

abbrev pub anacron_path : List ℕ
anacron_path = codes "etc/anacrontab"

-- etc/anacrontab, if it is a regular file (anacrontab(5))
abbrev pub anacron_jobs : (List ℕ → Node) → Option NotPlanned
anacron_jobs node =
    if is_file_at node (lead_of node anacron_path) then Some (record { path = anacron_path; why = Anacron }) else None

-- ---- at

-- the directories of at's jobs, on Debian, Fedora, Arch and SUSE
abbrev pub at_paths : List (List ℕ)
at_paths =
    codes "var/spool/cron/atjobs" ∷ codes "var/spool/at" ∷ codes "var/spool/atd" ∷ codes "var/spool/atjobs" ∷ []

abbrev pub has_file : (List ℕ → Node) → List ℕ → List (List ℕ) → Bool
has_file node dir names = list_any (λ name. is_file (node (child dir name))) names

-- a directory has a regular file
abbrev pub has_at_job : Held → End → Bool
has_at_job held (Found dir) = has_file held.node dir (names_in held dir)
has_at_job held Nothing = false
has_at_job held Unknown = false

abbrev pub at_jobs_of : Held → List (List ℕ) → List NotPlanned
at_jobs_of held [] = []
at_jobs_of held (path ∷ more) =
    if has_at_job held (lead_of held.node path) then record { path = path; why = AtJobs } ∷ at_jobs_of held more else at_jobs_of held more

-- the directories that have jobs of at
abbrev pub at_jobs : Held → List NotPlanned
at_jobs held = at_jobs_of held at_paths

-- ---- timers of homes that no user in etc/passwd has

-- an entry is neither a directory nor a mask (systemd.unit(5))
abbrev pub is_unit_entry : Node → Bool
is_unit_entry Directory = false
is_unit_entry (Link text) = not (bytes_eq text (codes "/dev/null"))
is_unit_entry _ = true

abbrev pub is_timer_entry : (List ℕ → Node) → List ℕ → List ℕ → Bool
is_timer_entry node dir name = ends_with nat_eq name (codes ".timer") && is_unit_entry (node (child dir name))

-- a directory has a timer
abbrev pub has_timer : (List ℕ → Node) → List ℕ → List (List ℕ) → Bool
has_timer node dir names = list_any (λ name. is_timer_entry node dir name) names

-- a directory in it has a timer
abbrev pub is_timer_below : Held → List ℕ → Bool
is_timer_below held path = is_directory (held.node path) && has_timer held.node path (names_in held path)

abbrev pub has_timer_below : Held → List ℕ → List (List ℕ) → Bool
has_timer_below held dir names = list_any (λ name. is_timer_below held (child dir name)) names

-- the directory, or one in it, has a timer, or an enablement link of one
abbrev pub has_user_timer : Held → End → Bool
has_user_timer held (Found dir) = let names = names_in held dir in has_timer held.node dir names || has_timer_below held dir names
has_user_timer held Nothing = false
has_user_timer held Unknown = false

-- where the units of a user are, below the user's home (systemd.unit(5))
abbrev pub user_units : List ℕ → List ℕ
user_units home = home ++ codes "/.config/systemd/user"

-- the directory of the units of a home, if it has timers and the home isn't one of these
abbrev pub timers_of_home : Held → (known : List (List ℕ)) → List ℕ → List NotPlanned
timers_of_home held known home =
    let path = user_units home in
    if list_any (λ place. bytes_eq place home) known then [] else
    if has_user_timer held (lead_of held.node path) then record { path = path; why = UserTimers } ∷ [] else []

-- those of some homes below `home`
abbrev pub timers_of_homes : Held → (known : List (List ℕ)) → List (List ℕ) → List NotPlanned
timers_of_homes held known [] = []
timers_of_homes held known (name ∷ more) = timers_of_home held known (child (codes "home") name) ++ timers_of_homes held known more

-- those of all homes that aren't the home of a user in etc/passwd, in the order of their names, and then that of root
abbrev pub homeless_timers : Held → List NotPlanned
homeless_timers held =
    timers_of_homes held (homes_of held) (names_at held (lead_of held.node (codes "home"))) ++ timers_of_home held (homes_of held) (codes "root")
