-- The crontabs of a machine whose file Debian's cron ignores, by what `check` can't see: its owner and its mode, and the users of the
-- machine (cron 3.0pl1, database.c and entry.c).
use Rattle.std.specs.Prelude.{ℕ, ◌+◌, Bool, if◌then◌else◌, List, [], ◌∷◌, ◌++◌, Option, None, Some, Ok, Err, codes}
use Rattle.std.specs.List.{list_any}
use Rattle.std.specs.Option.{option_map, option_or}
use Rattle.std.specs.Str.{bytes_eq}
use Rattle.plan_owners.specs.declared.crontabs.Ignored.{Ignored}
use Rattle.plan_owners.specs.declared.daemon.CronDaemon.{CronDaemon}
use Rattle.plan_owners.specs.declared.daemon.CronDaemon.TheVariants.{Debian, Cronie, Other}
use Rattle.plan_owners.specs.declared.file_faults.FileFault.{FileFault}
use Rattle.plan_owners.specs.declared.users.User.{User}
use Rattle.plan_owners.specs.FileFaults.{fault_text, system_fault, user_fault}
use Rattle.plan_owners.specs.Daemon.{KnownDaemon}
use Rattle.plan_owners.specs.Looks.{look_at}
use Rattle.plan_owners.specs.Paths.{name_of_path}
use Rattle.plan_owners.specs.Users.{names_of, number_of}
use Rattle.plan_parts.specs.Files.{FileBytes}
use Rattle.plan_rules.specs.declared.crontabs.Kind.TheVariants as whose
use Rattle.plan_rules.specs.declared.source_kind.SourceKind.{SourceKind}
use Rattle.plan_rules.specs.declared.source_kind.SourceKind.TheVariants.{Crontab, System, CronD, Spool, Timer}
use Rattle.plan_rules.specs.Crontab.{line_reading}
use Rattle.plan_rules.specs.FileText.{text_reading}
use Rattle.plan_rules.specs.Job.{JobParts}
use Rattle.plan_rules.specs.LineFaults.{LineReading, TextReading}
use Rattle.plan_texts.specs.Lines.{lines}
use Rattle.plan_tree.specs.Tree.{Held}

-- ---- why

-- a file is ignored for what is wrong with it, if it has to be owned by `owner`
abbrev pub ignored_for : (owner : List ℕ) → FileFault → Ignored
ignored_for owner fault = record { line = None; why = codes "cron ignores this file: " ++ fault_text owner fault }

-- cron ignores each file that names a user who doesn't exist
abbrev pub no_user : (user : List ℕ) → List ℕ
no_user user = codes "user '" ++ (user ++ codes "' does not exist: cron ignores this file")

-- ---- the users of lines

-- the user of a job, if no user has that name
abbrev pub missing_user : (names : List (List ℕ)) → Option (List ℕ) → Option (List ℕ)
missing_user names None = None
missing_user names (Some user) = if list_any (bytes_eq user) names then None else Some user

-- the same for a line: only that of a job has a user
abbrev pub missing_in : (names : List (List ℕ)) → LineReading (Option JobParts) → Option (List ℕ)
missing_in names (Ok (Some job)) = missing_user names job.user
missing_in names (Ok None) = None
missing_in names (Err cause) = None

abbrev pub missing_on : (number : ℕ) → Option (List ℕ) → Option Ignored
missing_on number None = None
missing_on number (Some user) = Some (record { line = Some number; why = no_user user })

-- the first line with such a user decides; `number` is that of the first of these lines
abbrev pub missing_from : (names : List (List ℕ)) → (number : ℕ) → List (List ℕ) → Option Ignored
missing_from names number [] = None
missing_from names number (line ∷ more) =
    option_or (missing_on number (missing_in names (line_reading [] whose.System number line))) (missing_from names (number + 1) more)

abbrev pub missing_by : (names : List (List ℕ)) → TextReading (List ℕ) → Option Ignored
missing_by names (Ok text) = missing_from names 1 (lines text)
missing_by names (Err fault) = None

-- in the text of a crontab of the system; if the users aren't known, none is missing
abbrev pub missing_of : Option (List User) → (text : List ℕ) → Option Ignored
missing_of None text = None
missing_of (Some users) text = missing_by (names_of users) (text_reading text)

-- ---- a file of the system

unfoldable pub system_why : Held → KnownDaemon → FileBytes → Option Ignored
system_why held daemon file =
    option_or (option_map (ignored_for (codes "root")) (system_fault daemon.owners_count (look_at held file.path)))
    (missing_of daemon.users file.bytes)

-- ---- a file of a user

-- the owners that the file of a user may have
abbrev pub owners_of : (name : List ℕ) → List ℕ
owners_of name = name ++ codes " or root"

abbrev pub user_file_why : Held → (counts : Bool) → (number : Option (List ℕ)) → (path : List ℕ) → Option Ignored
user_file_why held counts number path =
    option_map (ignored_for (owners_of (name_of_path path))) (user_fault counts number (look_at held path))

-- by the number of the user with the file's name
abbrev pub known_user_why : Held → (counts : Bool) → (number : Option (List ℕ)) → (path : List ℕ) → Option Ignored
known_user_why held counts None path = Some (record { line = None; why = no_user (name_of_path path) })
known_user_why held counts (Some number) path = user_file_why held counts (Some number) path

-- if the users aren't known, none is missing (agenda)
abbrev pub user_why_by : Held → (counts : Bool) → Option (List User) → (path : List ℕ) → Option Ignored
user_why_by held counts None path = user_file_why held counts None path
user_why_by held counts (Some users) path = known_user_why held counts (number_of users (name_of_path path)) path

unfoldable pub user_why : Held → KnownDaemon → (path : List ℕ) → Option Ignored
user_why held daemon path = user_why_by held daemon.owners_count daemon.users path

-- ---- a source

-- why Debian's cron ignores the file of a crontab of this kind
abbrev pub ignored_why : Held → KnownDaemon → SourceKind → FileBytes → Option Ignored
ignored_why held daemon System file = system_why held daemon file
ignored_why held daemon CronD file = system_why held daemon file
ignored_why held daemon Spool file = user_why held daemon file.path
ignored_why held daemon Crontab file = None
ignored_why held daemon Timer file = None

-- why the program that reads the crontabs ignores such a file; only the rules of Debian's cron are known (agenda)
abbrev pub why_by : CronDaemon → Option Ignored → Option Ignored
why_by Debian why = why
why_by Cronie why = None
why_by Other why = None

unfoldable pub file_why : Held → KnownDaemon → SourceKind → FileBytes → Option Ignored
file_why held daemon kind file = why_by daemon.program (ignored_why held daemon kind file)
