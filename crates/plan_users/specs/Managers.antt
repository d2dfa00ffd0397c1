-- The users who can have a manager of units (user@.service(5)).
use Rattle.std.specs.Prelude.{ℕ, Bool, not, ◌&&◌, ◌||◌, ◌==◌, if◌then◌else◌, List, [], ◌∷◌, map, Option, None, Some}
use Rattle.std.specs.List.{cons_option, list_any}
use Rattle.std.specs.Str.{byte, bytes_eq}
use Rattle.plan_owners.specs.declared.users.User.{User}
use Rattle.plan_owners.specs.Users.{users_of}
use Rattle.plan_rules.specs.Names.{with_name}
use Rattle.plan_texts.specs.Text.{begins_with}
use Rattle.plan_tree.specs.Links.{is_here, is_up}
use Rattle.plan_tree.specs.Place.{child, names_of}
use Rattle.plan_tree.specs.Tree.{Held}
use Rattle.plan_users.specs.declared.managers.Manager.{Manager}

-- ---- the name of a user

-- a file in a directory can have the name: it isn't empty, `.` or `..`, and has no slash (agenda)
abbrev pub is_file_name : List ℕ → Bool
is_file_name name = not (is_here name || is_up name) && not (list_any (λ b. b == byte "/") name)

-- ---- the home directory

-- a directory, or one in it; `.` and an empty name stay in the directory (path_resolution(7))
abbrev pub inside : (dir : List ℕ) → (name : List ℕ) → List ℕ
inside dir name = if is_here name then dir else child dir name

abbrev pub place_from : (dir : List ℕ) → List (List ℕ) → List ℕ
place_from dir [] = dir
place_from dir (name ∷ more) = place_from (inside dir name) more

-- the path in the tree of a home directory, which is an absolute path (agenda)
abbrev pub home_of : List ℕ → Option (List ℕ)
home_of home = if begins_with (λ b. b == byte "/") home then Some (place_from [] (names_of home)) else None

-- ---- one user

abbrev pub manager_at : User → Option (List ℕ) → Option Manager
manager_at user None = None
manager_at user (Some home) = Some (record { user = user.name; number = user.number; home = home })

-- a user with such a name and such a home directory
abbrev pub manager_of : User → Option Manager
manager_of user = if is_file_name user.name then manager_at user (home_of user.home) else None

-- ---- all users

-- of several lines with a name the first one counts (getpwnam(3)); these are the names on the lines before
abbrev pub new_manager : (names : List (List ℕ)) → User → Option Manager
new_manager names user = if list_any (bytes_eq user.name) names then None else manager_of user

abbrev pub managers_after : (names : List (List ℕ)) → List User → List Manager
managers_after names [] = []
managers_after names (user ∷ more) = cons_option (new_manager names user) (managers_after (with_name names user.name) more)

abbrev pub managers_by : Option (List User) → List Manager
managers_by None = []
managers_by (Some users) = managers_after [] users

-- the users who can have a manager, in the order of etc/passwd; none if that can't be read
abbrev pub managers_of : Held → List Manager
managers_of held = managers_by (users_of held)

-- their home directories
abbrev pub homes_of : Held → List (List ℕ)
homes_of held = map (λ manager. manager.home) (managers_of held)
