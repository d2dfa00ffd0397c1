-- A source of a machine.
use Rattle.std.specs.Prelude.{ℕ, Bool, List, codes, is_some}
use Rattle.plan_parts.specs.declared.parts.Parts.{Parts}
use Rattle.plan_rules.specs.declared.source_kind.SourceKind.{SourceKind}
use Rattle.plan_rules.specs.declared.source_kind.SourceKind.TheVariants.{Crontab, System, CronD, Spool, Timer}
use Rattle.plan_rules.specs.SourceKind.{name_cause}

-- a source: its kind, the name that its jobs get, and its parts
pub record SourceParts : Type 0 where
  pub kind : SourceKind
  pub name : List ℕ
  pub parts : Parts

-- the name that no other crontab may have: what comes before the line number in the names of its jobs. Those of the system's
-- crontab are named `system:N` (agenda)
abbrev pub name_by : SourceKind → List ℕ → List ℕ
name_by System name = codes "system"
name_by Crontab name = name
name_by CronD name = name
name_by Spool name = name
name_by Timer name = name

abbrev pub taken_name : SourceParts → List ℕ
taken_name source = name_by source.kind source.name

-- whether a source of this kind may not have this name (cron(8) of Debian)
unfoldable pub is_bad_name : SourceKind → List ℕ → Bool
is_bad_name kind name = is_some (name_cause kind name)
