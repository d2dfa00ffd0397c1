-- What is found of the timers of users.
use Rattle.std.specs.Prelude.{ℕ, Bool, ◌||◌, if◌then◌else◌, List, [], ◌∷◌, ◌++◌, map, Option, None, Some, codes}
use Rattle.plan_services.specs.Planned.{not_planned, planned}
use Rattle.plan_timers.specs.declared.reports.NotPlanned.{NotPlanned}
use Rattle.plan_timers.specs.declared.reports.Skipped.{Skipped}
use Rattle.plan_timers.specs.declared.reports.Unplanned.TheVariants.{NotLingering}
use Rattle.plan_timers.specs.Source.{TimerParts}
use Rattle.plan_timers.specs.Timers.{FoundTimers}
use Rattle.plan_tree.specs.Tree.{Held}
use Rattle.plan_units.specs.declared.paths.UnitDir.{UnitDir}
use Rattle.plan_units.specs.UnitFile.{is_below}
use Rattle.plan_users.specs.declared.found.UserTimers.{UserTimers}
use Rattle.plan_users.specs.declared.managers.Manager.{Manager}
use Rattle.plan_users.specs.Dirs.{config_dir, data_dir}
use Rattle.plan_users.specs.Lingering.{lingers}

-- the timers that are planned, what is skipped, and what isn't planned
pub record FoundUsers : Type 0 where
  pub timers : List TimerParts
  pub skipped : List Skipped
  pub unplanned : List NotPlanned

abbrev pub users_view : UserTimers → FoundUsers
users_view found = record {
  timers = found.timers.items;
  skipped = found.skipped.items;
  unplanned = found.unplanned.items;
}

abbrev pub nothing : FoundUsers
nothing = record { timers = []; skipped = []; unplanned = [] }

-- what is found, and then what else is
abbrev pub joined : FoundUsers → (more : FoundUsers) → FoundUsers
joined found more = record {
  timers = found.timers ++ more.timers;
  skipped = found.skipped ++ more.skipped;
  unplanned = found.unplanned ++ more.unplanned;
}

-- ---- a user who lingers

-- the name of a job: the user, a slash, and the name that it has among the user's jobs (agenda)
abbrev pub job_of : (user : List ℕ) → (name : List ℕ) → List ℕ
job_of user name = user ++ codes "/" ++ name

abbrev pub user_timer : (user : List ℕ) → TimerParts → TimerParts
user_timer user timer = record { unit = timer.unit; name = job_of user timer.name; file = timer.file; drop_ins = timer.drop_ins }

-- the timers are planned, but those whose unit can't start
abbrev pub planned_of : Held → List UnitDir → (user : List ℕ) → FoundTimers → FoundUsers
planned_of held dirs user timers = record {
  timers = map (user_timer user) (planned held dirs timers.sources);
  skipped = timers.skipped;
  unplanned = not_planned held dirs timers.sources;
}

-- ---- a user who doesn't linger

-- a file in one of the two directories of units in a home directory
abbrev pub is_at_home : (home : List ℕ) → (path : List ℕ) → Bool
is_at_home home path = is_below path (config_dir home) || is_below path (data_dir home)

-- the file of the first of some timers whose file is there
abbrev pub first_at_home : (home : List ℕ) → List TimerParts → Option (List ℕ)
first_at_home home [] = None
first_at_home home (timer ∷ more) = if is_at_home home timer.file.path then Some timer.file.path else first_at_home home more

abbrev pub lingerless_by : (user : List ℕ) → Option (List ℕ) → List NotPlanned
lingerless_by user None = []
lingerless_by user (Some path) = record { path = path; why = NotLingering user } ∷ []

-- the user is reported by that file: the other timers are those of all users (agenda)
abbrev pub lingerless_of : Manager → FoundTimers → FoundUsers
lingerless_of manager timers = record {
  timers = [];
  skipped = [];
  unplanned = lingerless_by manager.user (first_at_home manager.home timers.sources);
}

-- ---- a user

-- the manager of a user who lingers starts with the machine (loginctl(1), enable-linger)
abbrev pub found_for : Held → List UnitDir → Manager → FoundTimers → FoundUsers
found_for held dirs manager timers =
    if lingers held.node manager.user then planned_of held dirs manager.user timers else lingerless_of manager timers
