-- The sources of a machine and what is skipped, as they are found.
use Rattle.std.specs.Prelude.{◌≡◌, ⊤, ℕ, Bool, false, if◌then◌else◌, List, [], ◌∷◌, ◌++◌, Option, None, Some}
use Rattle.std.specs.List.{list_any}
use Rattle.std.specs.Str.{bytes_eq}
use Rattle.plan_rules.specs.declared.source_kind.SourceKind.{SourceKind}
use Rattle.plan_rules.specs.declared.source_kind.SourceKind.TheVariants.{Crontab, System, CronD, Spool, Timer}
use Rattle.plan_parts.specs.declared.parts.Parts.TheVariants.{One}
use Rattle.plan_parts.specs.Files.{FileBytes}
use Rattle.plan_timers.specs.declared.reports.Skipped.{Skipped}
use Rattle.plan_timers.specs.declared.reports.Why.{Why}
use Rattle.plan_timers.specs.declared.reports.Why.TheVariants.{NotReadable, NameTaken}
use Rattle.plan_machine.specs.Source.{SourceParts, taken_name}

-- the sources and what is skipped, each in the order in which it was found
pub record Sources : Type 0 where
  pub found : List SourceParts
  pub skipped : List Skipped

abbrev pub no_sources : Sources
no_sources = record { found = []; skipped = [] }

-- one source more
abbrev pub with_source : Sources → SourceParts → Sources
with_source all source = record { found = all.found ++ source ∷ []; skipped = all.skipped }

-- something more that is skipped
abbrev pub with_skipped : Sources → List ℕ → Why → Sources
with_skipped all path why = record { found = all.found; skipped = all.skipped ++ record { path = path; why = why } ∷ [] }

-- ---- names

-- an earlier crontab has the name
abbrev pub is_taken : List SourceParts → List ℕ → Bool
is_taken sources name = list_any (λ source. bytes_eq (taken_name source) name) sources

-- a source is the crontab of a package with this name
abbrev pub is_package_by : SourceKind → List ℕ → List ℕ → Bool
is_package_by CronD name wanted = bytes_eq name wanted
is_package_by Crontab name wanted = false
is_package_by System name wanted = false
is_package_by Spool name wanted = false
is_package_by Timer name wanted = false

abbrev pub is_package : SourceParts → List ℕ → Bool
is_package source name = is_package_by source.kind source.name name

-- an earlier crontab of a package has the name
abbrev pub has_package : List SourceParts → List ℕ → Bool
has_package sources name = list_any (λ source. is_package source name) sources

-- ---- a crontab

-- a crontab that can be read is a source if no earlier one has its name (agenda)
abbrev pub with_crontab : Sources → List ℕ → SourceParts → Sources
with_crontab all path source =
    if is_taken all.found (taken_name source) then with_skipped all path NameTaken else with_source all source

-- a crontab, if it can be read
abbrev pub with_file : Sources → SourceKind → List ℕ → List ℕ → Option FileBytes → Sources
with_file all kind path name None = with_skipped all path NotReadable
with_file all kind path name (Some file) = with_crontab all path (record { kind = kind; name = name; parts = One file })

-- ---- all crontabs

-- no crontab has the name of a later one: so no two of their jobs have one name (agenda)
abbrev pub IsEachNameOnce : List SourceParts → Type 0
IsEachNameOnce [] = ⊤
IsEachNameOnce (source ∷ more) = (is_taken more (taken_name source) ≡ false) × IsEachNameOnce more
