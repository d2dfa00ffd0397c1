-- The program that reads the crontabs of a machine, and the users that it knows.
use Rattle.std.specs.Prelude.{ℕ, Bool, if◌then◌else◌, List, Option, codes}
use Rattle.plan_owners.specs.declared.daemon.CronDaemon.{CronDaemon}
use Rattle.plan_owners.specs.declared.daemon.CronDaemon.TheVariants.{Debian, Cronie, Other}
use Rattle.plan_owners.specs.declared.users.User.{User}
use Rattle.plan_owners.specs.Looks.{owners_count}
use Rattle.plan_owners.specs.Paths.{is_file_at, lead_of}
use Rattle.plan_owners.specs.Users.{users_of}
use Rattle.plan_tree.specs.declared.tree.Node.{Node}
use Rattle.plan_tree.specs.Tree.{Held}

abbrev pub debian_path : List ℕ
debian_path = codes "usr/sbin/cron"

abbrev pub cronie_path : List ℕ
cronie_path = codes "usr/sbin/crond"

-- the program that reads the crontabs: if both are there, Debian's cron (agenda)
unfoldable pub program_of : (List ℕ → Node) → CronDaemon
program_of node =
    if is_file_at node (lead_of node debian_path) then Debian else
    if is_file_at node (lead_of node cronie_path) then Cronie else
    Other

-- which program it is, the users of the machine, and whether owners and modes count
pub record KnownDaemon : Type 0 where
  pub program : CronDaemon
  pub users : Option (List User)
  pub owners_count : Bool

abbrev pub daemon_of : Held → KnownDaemon
daemon_of held = record {
  program = program_of held.node;
  users = users_of held;
  owners_count = owners_count held;
}
