-- The warnings on lines of a crontab that cron ignores with the whole crontab, or reads otherwise (cron 3.0pl1). Which there are, and
-- their order, is our choice (agenda).
use Rattle.std.specs.Prelude.{ℕ, Bool, false, ◌==◌, List, [], ◌++◌, length, codes, Option, Some, None}
use Rattle.std.specs.Option.{option_map_or}
use Rattle.plan_clock.specs.declared.row.Change.{Change}
use Rattle.plan_cron.specs.Commands.{begins_with_star, has_two_backslashes, is_too_long}
use Rattle.plan_cron.specs.Lines.{ends_at_nul, is_unended}
use Rattle.plan_cron.specs.Settings.{is_setting_of_word, setting_fault}
use Rattle.plan_cron.specs.Users.{is_no_user}
use Rattle.plan_rules.specs.declared.crontabs.Kind.{Kind}
use Rattle.plan_rules.specs.Job.{JobParts}
use Rattle.plan_texts.specs.Lines.{lines}
use Rattle.plan_check.specs.declared.finding.Finding.{Finding}
use Rattle.plan_check.specs.declared.finding.Warning.TheVariants.{CronDiffers, CronIgnores, NoUser}
use Rattle.plan_check.specs.declared.finding.FindingKind.TheVariants.{Warned}
use Rattle.plan_check.specs.Finding.{detailed_if, found_if, found_with}

-- ---- a line of a job

-- cron ignores the crontab for the job of a line with a text
abbrev pub ignored_job : Kind → ℕ → (text command : List ℕ) → List Finding
ignored_job kind line text command =
    detailed_if (begins_with_star kind command) line (Warned CronIgnores) (codes "the command begins with *")
    ++ detailed_if (is_too_long kind text) line (Warned CronIgnores) (codes "command over 998 bytes")

-- cron reads the line otherwise
abbrev pub other_job : ℕ → (text command : List ℕ) → List Finding
other_job line text command =
    detailed_if (is_setting_of_word text) line (Warned CronDiffers)
    (codes "cron reads this as a setting: the command begins with =")
    ++ detailed_if (has_two_backslashes command) line (Warned CronDiffers) (codes "cron removes one of two backslashes")

-- the user of a line can't be one; the message quotes it
abbrev pub user_warnings : ℕ → (user : Option (List ℕ)) → List Finding
user_warnings line None = []
user_warnings line (Some user) = found_if (is_no_user user) line (Warned NoUser) (Some user)

-- all warnings on a line of a job by how cron reads it, in this order
abbrev pub cron_warnings : Kind → ℕ → (text : List ℕ) → JobParts → List Finding
cron_warnings kind line text job =
    ignored_job kind line text job.command ++ (other_job line text job.command ++ user_warnings line job.user)

-- ---- any line

-- a line is the first one below the last line that cron accepts
abbrev pub is_first : (beyond : Option ℕ) → ℕ → Bool
is_first beyond line = option_map_or (λ first. first == line) beyond false

-- the warnings on a line by its place and its bytes, in this order
abbrev pub placed : (is_beyond : Bool) → ℕ → (text : List ℕ) → List Finding
placed is_beyond line text =
    detailed_if is_beyond line (Warned CronIgnores) (codes "more than 10003 lines")
    ++ detailed_if (ends_at_nul text) line (Warned CronDiffers) (codes "cron ends the line at a NUL byte")

-- the same, if there is a clock
abbrev pub place_warnings : Option (List Change) → (is_beyond : Bool) → ℕ → (text : List ℕ) → List Finding
place_warnings None is_beyond line text = []
place_warnings (Some clock) is_beyond line text = placed is_beyond line text

-- the warning on a line that makes no job, if there is a clock
abbrev pub fault_warnings : Option (List Change) → ℕ → (text : List ℕ) → List Finding
fault_warnings None line text = []
fault_warnings (Some clock) line text = found_with (setting_fault text) line (Warned CronIgnores) None

-- the warning on the end of a crontab's text, if there is a clock
abbrev pub end_warnings : Option (List Change) → (text : List ℕ) → List Finding
end_warnings None text = []
end_warnings (Some clock) text =
    detailed_if (is_unended text) (length (lines text)) (Warned CronIgnores) (codes "no newline at its end")
