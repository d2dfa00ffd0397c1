-- The crontabs of a machine (cron(8)).
use Rattle.std.specs.Prelude.{ℕ, if◌then◌else◌, List, [], ◌∷◌, codes}
use Rattle.plan_rules.specs.declared.source_kind.SourceKind.TheVariants.{System, CronD}
use Rattle.plan_machine.specs.Source.{is_bad_name}
use Rattle.plan_tree.specs.declared.links.End.{End}
use Rattle.plan_tree.specs.Place.{child}
use Rattle.plan_tree.specs.Tree.{Held}
use Rattle.plan_timers.specs.declared.reports.Why.TheVariants.{BadName}
use Rattle.plan_machine.specs.Collection.{Sources, no_sources, with_file, with_skipped}
use Rattle.plan_machine.specs.Directories.{is_missing, look, names_at, with_directory}
use Rattle.plan_machine.specs.Files.{file_at, lead_of}
use Rattle.plan_machine.specs.Spool.{with_spool}

-- ---- the system's crontab

abbrev pub system_path : List ℕ
system_path = codes "etc/crontab"

abbrev pub with_system_at : Held → (most : ℕ) → Sources → End → Sources
with_system_at held most all end =
    if is_missing end then all else with_file all System system_path (codes "crontab") (file_at held most system_path end)

-- etc/crontab, unless nothing has this path (cron(8))
abbrev pub with_system : Held → (most : ℕ) → Sources → Sources
with_system held most all = with_system_at held most all (look held.node (codes "etc") (codes "crontab"))

-- ---- the crontabs of packages

-- a file of a package, by its name; cron ignores those with other names (cron(8) of Debian)
abbrev pub with_package : Held → (most : ℕ) → (dir : List ℕ) → Sources → List ℕ → Sources
with_package held most dir all name =
    let path = child dir name in
    if is_bad_name CronD name then with_skipped all path BadName else
    with_file all CronD path name (file_at held most path (lead_of held.node path))

abbrev pub with_packages : Held → (most : ℕ) → (dir : List ℕ) → Sources → List (List ℕ) → Sources
with_packages held most dir all [] = all
with_packages held most dir all (name ∷ more) = with_packages held most dir (with_package held most dir all name) more

-- the files of etc/cron.d, in the order of their names (cron(8) of Debian)
abbrev pub with_cron_d : Held → (most : ℕ) → Sources → Sources
with_cron_d held most all =
    let path = codes "etc/cron.d" in
    let end = look held.node (codes "etc") (codes "cron.d") in
    with_packages held most path (with_directory held all path end) (names_at held end)

-- ---- all

-- the system's crontab, those of packages and those of users
abbrev pub crontabs_of : Held → (most : ℕ) → Sources
crontabs_of held most = with_spool held most (with_cron_d held most (with_system held most no_sources))
