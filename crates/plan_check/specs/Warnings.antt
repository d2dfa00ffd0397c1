-- The warnings on the lines of crontabs: on valid rules, on what they run, and on settings.
use Rattle.std.specs.Prelude.{ℕ, Bool, true, false, not, ◌&&◌, ◌==◌, nat_eq, nat_lt, List, [], ◌∷◌, ◌++◌, length, codes, Option, Some, None, is_none, is_some, slice_get}
use Rattle.std.specs.List.{before_first, ends_with, list_any, position_or_len}
use Rattle.std.specs.Str.{byte, bytes_eq}
use Rattle.plan_sets.specs.Limits.{end_second}
use Rattle.plan_clock.specs.declared.row.Change.{Change}
use Rattle.plan_cron.specs.Commands.{has_bare_percent}
use Rattle.plan_match.specs.Zone.{rule_in}
use Rattle.plan_match.specs.declared.rule.Rule.{Rule}
use Rattle.plan_match.specs.declared.rule.Rule.TheVariants.{Cron, Never, Events}
use Rattle.plan_next.specs.Starts.{starts}
use Rattle.plan_rules.specs.declared.crontabs.Kind.{Kind}
use Rattle.plan_rules.specs.Job.{JobParts}
use Rattle.plan_texts.specs.WholeLines.{trimmed}
use Rattle.plan_check.specs.declared.finding.Finding.{Finding}
use Rattle.plan_check.specs.declared.finding.Warning.TheVariants.{NeverStarts, EitherDay, Percent, CarriageReturn, ZoneSetting}
use Rattle.plan_check.specs.declared.finding.FindingKind.TheVariants.{Warned}
use Rattle.plan_check.specs.CronWarnings.{cron_warnings, fault_warnings}
use Rattle.plan_check.specs.Finding.{found_if}

-- a rule has no start from 1970 to 2999 (agenda)
abbrev pub never_starts : Rule → Bool
never_starts rule = is_none (slice_get (starts rule 0 end_second) 0)

-- the rule is that of `@reboot`, which is meant to have no start in a span (crontab(5), extensions)
abbrev pub is_reboot : Rule → Bool
is_reboot Never = true
is_reboot (Cron rule) = false
is_reboot (Events events) = false

-- both day fields are restricted, so either is enough (crontab(5), the note on the day of a command's run)
abbrev pub is_either_day : Rule → Bool
is_either_day (Cron rule) = rule.month_days_restricted && rule.week_days_restricted
is_either_day Never = false
is_either_day (Events events) = false

-- the warnings on the rule of a line, in this order, by the clock of a zone (agenda)
abbrev pub rule_warnings : List Change → ℕ → Rule → List Finding
rule_warnings clock line rule =
    found_if (not (is_reboot rule) && never_starts (rule_in clock rule)) line (Warned NeverStarts) None
    ++ found_if (is_either_day rule) line (Warned EitherDay) None

-- ---- what a line runs

-- a command ends with a carriage return, byte 13, as lines of other systems do (agenda)
abbrev pub ends_with_return : List ℕ → Bool
ends_with_return command = ends_with nat_eq command (13 ∷ [])

-- the warnings on the command of a line, in this order (agenda)
abbrev pub command_warnings : ℕ → List ℕ → List Finding
command_warnings line command =
    found_if (has_bare_percent command) line (Warned Percent) None
    ++ found_if (ends_with_return command) line (Warned CarriageReturn) None

-- the warnings on the job of a line with a text, in this order (agenda)
abbrev pub job_warnings : List Change → Kind → ℕ → (text : List ℕ) → JobParts → List Finding
job_warnings clock kind line text job =
    rule_warnings clock line job.rule ++ (command_warnings line job.command ++ cron_warnings kind line text job)

-- the same, if there is a clock: without one there are no warnings
abbrev pub warnings_by : Option (List Change) → Kind → ℕ → (text : List ℕ) → JobParts → List Finding
warnings_by None kind line text job = []
warnings_by (Some clock) kind line text job = job_warnings clock kind line text job

-- ---- settings

-- the names of the setting that sets the zone of a crontab, which may have quotes around it (crontab(5) of cronie)
abbrev pub zone_names : List (List ℕ)
zone_names = codes "CRON_TZ" ∷ codes "\"CRON_TZ\"" ∷ codes "'CRON_TZ'" ∷ []

-- a line has an `=`, and before the first one such a name, with blanks around it or without (crontab(5), environment settings)
abbrev pub is_zone_setting : List ℕ → Bool
is_zone_setting line =
    let is_equals : ℕ → Bool = λ b. b == byte "=" in
    nat_lt (position_or_len is_equals line) (length line)
    && list_any (bytes_eq (trimmed (before_first is_equals line))) zone_names

-- the warnings on a line that makes no job, in this order: on a setting of a zone, and by how cron reads the line (agenda)
abbrev pub setting_warnings : Option (List Change) → ℕ → (text : List ℕ) → List Finding
setting_warnings clock line text =
    found_if (is_some clock && is_zone_setting text) line (Warned ZoneSetting) None ++ fault_warnings clock line text
