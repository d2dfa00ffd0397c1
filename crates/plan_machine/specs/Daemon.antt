-- Whether a cron daemon is there.
use Rattle.std.specs.Prelude.{ℕ, Bool, true, false, not, ◌&&◌, List, [], ◌∷◌, codes}
use Rattle.std.specs.List.{list_any}
use Rattle.plan_rules.specs.declared.source_kind.SourceKind.{SourceKind}
use Rattle.plan_rules.specs.declared.source_kind.SourceKind.TheVariants.{Crontab, System, CronD, Spool, Timer}
use Rattle.plan_tree.specs.declared.links.End.{End}
use Rattle.plan_tree.specs.declared.links.End.TheVariants.{Unknown, Nothing, Found}
use Rattle.plan_tree.specs.declared.tree.Node.{Node}
use Rattle.plan_machine.specs.Files.{is_file, lead_of}
use Rattle.plan_machine.specs.Source.{SourceParts}

-- the programs that read crontabs, the last two as units of systemd (agenda)
abbrev pub daemon_paths : List (List ℕ)
daemon_paths =
    codes "usr/sbin/cron" ∷ codes "usr/sbin/crond" ∷ codes "usr/bin/crond" ∷ codes "usr/sbin/cronie" ∷ codes "usr/sbin/fcron"
    ∷ codes "usr/sbin/bcron-sched" ∷ codes "usr/lib/systemd/system-generators/systemd-crontab-generator"
    ∷ codes "lib/systemd/system-generators/systemd-crontab-generator" ∷ []

-- a program that may be there counts (agenda)
abbrev pub may_be_file : (List ℕ → Node) → End → Bool
may_be_file node (Found path) = is_file (node path)
may_be_file node Nothing = false
may_be_file node Unknown = true

abbrev pub has_daemon_among : (List ℕ → Node) → List (List ℕ) → Bool
has_daemon_among node paths = list_any (λ path. may_be_file node (lead_of node path)) paths

unfoldable pub has_cron_daemon : (List ℕ → Node) → Bool
has_cron_daemon node = has_daemon_among node daemon_paths

-- ---- crontabs that no program reads

abbrev pub is_crontab_kind : SourceKind → Bool
is_crontab_kind Crontab = true
is_crontab_kind System = true
is_crontab_kind CronD = true
is_crontab_kind Spool = true
is_crontab_kind Timer = false

abbrev pub has_crontab : List SourceParts → Bool
has_crontab sources = list_any (λ source. is_crontab_kind source.kind) sources

abbrev pub lacks_cron_daemon : (List ℕ → Node) → List SourceParts → Bool
lacks_cron_daemon node sources = has_crontab sources && not (has_cron_daemon node)
