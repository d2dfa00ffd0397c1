-- What is found on a machine.
use Rattle.std.specs.Prelude.{◌≡◌, ℕ, Bool, if◌then◌else◌, List, [], ◌∷◌, ◌++◌, map, Option, None, Some, codes, ◌⊎◌}
use Rattle.std.specs.List.{list_any}
use Rattle.std.specs.Str.{bytes_eq}
use Rattle.plan_owners.specs.declared.daemon.CronDaemon.{CronDaemon}
use Rattle.plan_rules.specs.declared.source_kind.SourceKind.TheVariants.{Timer}
use Rattle.plan_timers.specs.declared.reports.NotPlanned.{NotPlanned}
use Rattle.plan_timers.specs.declared.reports.Skipped.{Skipped}
use Rattle.plan_services.specs.Planned.{not_planned, planned}
use Rattle.plan_timers.specs.Reports.{why_text}
use Rattle.plan_timers.specs.Source.{TimerParts, parts_of_timer}
use Rattle.plan_timers.specs.Timers.{AreMachineTimers, FoundTimers}
use Rattle.plan_tree.specs.Tree.{Held}
use Rattle.plan_units.specs.declared.paths.UnitDir.{UnitDir}
use Rattle.plan_units.specs.Reach.{AreTooMany}
use Rattle.plan_units.specs.SearchPath.{search_path}
use Rattle.plan_units.specs.Timers.{first_unit}
use Rattle.plan_units.specs.Wants.{wants_of}
use Rattle.plan_users.specs.Found.{FoundUsers}
use Rattle.plan_users.specs.Timers.{AreTooManyUserUnits, AreUserTimers}
use Rattle.plan_machine.specs.declared.machine.Machine.{Machine}
use Rattle.plan_machine.specs.Cron.{crontabs_of}
use Rattle.plan_machine.specs.Ignored.{KnownCron, cron_of}
use Rattle.plan_machine.specs.Others.{anacron_jobs, at_jobs, homeless_timers}
use Rattle.plan_machine.specs.Source.{SourceParts}

-- the sources, what is skipped, what isn't planned, whether no program reads the crontabs, and which one does
pub record FoundMachine : Type 0 where
  pub sources : List SourceParts
  pub skipped : List Skipped
  pub unplanned : List NotPlanned
  pub lacks_cron_daemon : Bool
  pub cron_daemon : CronDaemon

abbrev pub machine_view : Machine → FoundMachine
machine_view machine =
    record {
      sources = machine.sources.items;
      skipped = machine.skipped.items;
      unplanned = machine.unplanned.items;
      lacks_cron_daemon = machine.lacks_cron_daemon;
      cron_daemon = machine.cron_daemon;
    }

-- a timer is a source with the name of its job
abbrev pub timer_source : TimerParts → SourceParts
timer_source timer = record { kind = Timer; name = timer.name; parts = parts_of_timer timer }

abbrev pub option_list : Option NotPlanned → List NotPlanned
option_list None = []
option_list (Some other) = other ∷ []

-- what isn't planned: the table of anacron, these crontabs, these timers, the jobs of at, these of users, and the timers of other
-- homes (agenda)
abbrev pub unplanned_of : Held → (crontabs timers users : List NotPlanned) → List NotPlanned
unplanned_of held crontabs timers users =
    option_list (anacron_jobs held.node) ++ crontabs ++ timers ++ at_jobs held ++ users ++ homeless_timers held

-- what is said of something that is skipped (agenda)
abbrev pub said : Skipped → List ℕ
said one = one.path ++ codes ": " ++ why_text one.why

-- a text is said of one of these
abbrev pub is_said : List Skipped → List ℕ → Bool
is_said skipped text = list_any (λ other. bytes_eq text (said other)) skipped

-- those of which nothing is said that is said of one before it; these come before all of them
abbrev pub new_after : (before : List Skipped) → List Skipped → List Skipped
new_after before [] = []
new_after before (one ∷ more) =
    if is_said before (said one) then new_after (before ++ one ∷ []) more else one ∷ new_after (before ++ one ∷ []) more

-- nothing is said twice (agenda)
abbrev pub distinct : List Skipped → List Skipped
distinct skipped = new_after [] skipped

-- a list, and one thing more if it is new
abbrev pub with_new : List Skipped → Skipped → (is_new : Bool) → List Skipped
with_new once one is_new = if is_new then once ++ one ∷ [] else once

-- what is found on a machine with these sources in crontabs, which come first, and these timers (agenda)
abbrev pub machine_with :
    Held → List SourceParts → List Skipped → List TimerParts → (others users : List NotPlanned) → KnownCron → FoundMachine
machine_with held crontabs skipped timers others users cron =
    record {
      sources = crontabs ++ map timer_source timers;
      skipped = skipped;
      unplanned = unplanned_of held cron.ignored others users;
      lacks_cron_daemon = cron.lacks_daemon;
      cron_daemon = cron.daemon;
    }

-- what is found on a machine with these timers, and these of users, which come last
abbrev pub machine_of : Held → List UnitDir → (most : ℕ) → FoundTimers → FoundUsers → FoundMachine
machine_of held dirs most timers users =
    let crontabs = crontabs_of held most in
    machine_with held crontabs.found (distinct ((crontabs.skipped ++ timers.skipped) ++ users.skipped))
    (planned held dirs timers.sources ++ users.timers) (not_planned held dirs timers.sources) users.unplanned (cron_of held crontabs.found)

-- what is found on a machine whose units are in these directories, with these timers of users
abbrev pub IsMachineOf : Held → List UnitDir → (all : Bool) → (most : ℕ) → FoundUsers → Machine → Type 0
IsMachineOf held dirs all most users machine =
    (timers : FoundTimers) × AreMachineTimers held dirs all most timers × (machine_view machine ≡ machine_of held dirs most timers users)

-- what is found on a machine with these timers of users: its units are those of the search path (systemd.unit(5))
abbrev pub IsMachineWith : Held → (all : Bool) → (most : ℕ) → FoundUsers → Machine → Type 0
IsMachineWith held all most users machine = IsMachineOf held (search_path held.node) all most users machine

-- what is found on a machine, with the timers of its users
abbrev pub IsMachine : Held → (all : Bool) → (most : ℕ) → Machine → Type 0
IsMachine held all most machine =
    (users : FoundUsers) × AreUserTimers held most users × IsMachineWith held all most users machine

-- the boot of a machine reaches too many units
abbrev pub AreTooManyBootUnits : Held → Type 0
AreTooManyBootUnits held = AreTooMany (wants_of held (search_path held.node)) first_unit

-- the boot of a machine, or the manager of a user, does
abbrev pub AreTooManyUnits : Held → Type 0
AreTooManyUnits held = AreTooManyBootUnits held ⊎ AreTooManyUserUnits held
