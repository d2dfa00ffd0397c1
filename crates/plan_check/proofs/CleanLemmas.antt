-- Warnings are no errors: for `errors_need_no_clock`.
use Rattle.std.proofs.Common.{◌≡◌, ℕ, Bool, true, false, not, ◌&&◌, ◌+◌, nat_lt, List, [], ◌∷◌, ◌++◌, length, codes, Option, Some, None, is_some, refl, ◌∙◌, arith}
use Rattle.std.proofs.lemmas.Bool.Decides.{nat_tests}
use Rattle.std.proofs.lemmas.List.Folds.{list_all-append}
use Rattle.plan_clock.specs.declared.row.Change.{Change}
use Rattle.plan_cron.specs.Commands.{begins_with_star, has_bare_percent, has_two_backslashes, is_too_long}
use Rattle.plan_cron.specs.Lines.{ends_at_nul, is_unended}
use Rattle.plan_cron.specs.Settings.{is_setting_of_word, setting_fault}
use Rattle.plan_cron.specs.Users.{is_no_user}
use Rattle.plan_match.specs.Zone.{rule_in}
use Rattle.plan_match.specs.declared.event.Calendar.{Calendar}
use Rattle.plan_match.specs.declared.rule.Rule.TheVariants.{Events}
use Rattle.plan_rules.specs.declared.crontabs.Kind.{Kind}
use Rattle.plan_rules.specs.Job.{JobParts}
use Rattle.plan_rules.specs.TimerOptions.{Setting, delay_seconds}
use Rattle.plan_rules.specs.TimerEntries.{Draft, lines_draft}
use Rattle.plan_check.specs.declared.context.TimerContext.{TimerContext}
use Rattle.plan_check.specs.declared.finding.Finding.{Finding}
use Rattle.plan_check.specs.declared.finding.Warning.{Warning}
use Rattle.plan_check.specs.declared.finding.Warning.TheVariants.{NeverStarts, EitherDay, NoEvents, Percent, CarriageReturn, SkippedStarts, UnknownKey, BadBoolean, BadDelay, Monotonic, Delayed, LineEnd, MayStop, Merged, RangeFromEnd, SystemdRejects, TimerRejected, UnitIgnored, ZoneSetting, CronDiffers, CronIgnores, NoUser}
use Rattle.plan_check.specs.declared.finding.FindingKind.TheVariants.{Warned}
use Rattle.plan_check.specs.CronWarnings.{cron_warnings, end_warnings, fault_warnings, ignored_job, other_job, place_warnings, user_warnings}
use Rattle.plan_check.specs.Finding.{detailed_if, is_clean, is_warning, found_if, found_with}
use Rattle.plan_check.specs.Settings.{is_bad_delay, is_unknown_key}
use Rattle.plan_check.specs.TimerWarnings.{TimerText, is_eventless, names_itself, notes_from, start_warnings, timer_text, timer_warnings, trigger_warnings}
use Rattle.plan_check.specs.Timers.{difference_findings, event_warnings, has_changes, setting_findings, stop_in}
use Rattle.plan_systemd.specs.FromEnd.{from_end_of}
use Rattle.plan_systemd.specs.MayStop.{may_stop}
use Rattle.plan_systemd.specs.Merged.{may_merge}
use Rattle.plan_systemd.specs.Rejection.{rejection_of}
use Rattle.plan_systemd.specs.Skipped.{may_skip_starts}
use Rattle.plan_texts.specs.Lines.{lines}
use Rattle.plan_triggers.specs.TimerFile.{is_bad_boolean, is_bad_unit, line_note}
use Rattle.plan_triggers.specs.Triggers.{has_trigger, rejected_whole}
use Rattle.plan_check.specs.Warnings.{command_warnings, ends_with_return, is_either_day, is_reboot, is_zone_setting, never_starts, rule_warnings, setting_warnings, warnings_by}

clean_append : (xs ys : List Finding) → is_clean (xs ++ ys) ≡ (is_clean xs && is_clean ys)
clean_append xs ys = list_all-append (λ finding. is_warning finding.kind) xs ys

two_clean :
    (p q : Bool) (line : ℕ) (first second : Warning) (a b : Option (List ℕ)) →
    is_clean (found_if p line (Warned first) a ++ found_if q line (Warned second) b) ≡ true
two_clean p q line first second a b = grind (arith, nat_tests)

quoting_clean :
    (is_so : Bool) (line : ℕ) (warning : Warning) (quote : Option (List ℕ)) →
    is_clean (found_if is_so line (Warned warning) quote) ≡ true
quoting_clean true line warning quote = refl
quoting_clean false line warning quote = refl

clean_with :
    (detail : Option (List ℕ)) (line : ℕ) (warning : Warning) (quote : Option (List ℕ)) →
    is_clean (found_with detail line (Warned warning) quote) ≡ true
clean_with None line warning quote = refl
clean_with (Some detail) line warning quote = refl

-- a warning whose message ends with a text
detailed_clean :
    (is_so : Bool) (line : ℕ) (warning : Warning) (detail : List ℕ) → is_clean (detailed_if is_so line (Warned warning) detail) ≡ true
detailed_clean true line warning detail = refl
detailed_clean false line warning detail = refl

both_clean : (xs ys : List Finding) → is_clean xs ≡ true → is_clean ys ≡ true → is_clean (xs ++ ys) ≡ true
both_clean xs ys first second = clean_append xs ys ∙ (λ i. first i && second i)

user_clean : (line : ℕ) (user : Option (List ℕ)) → is_clean (user_warnings line user) ≡ true
user_clean line None = refl
user_clean line (Some user) = quoting_clean (is_no_user user) line NoUser (Some user)

-- two such warnings
details_clean :
    (p q : Bool) (line : ℕ) (first second : Warning) (a b : List ℕ) →
    is_clean (detailed_if p line (Warned first) a ++ detailed_if q line (Warned second) b) ≡ true
details_clean p q line first second a b =
    both_clean (detailed_if p line (Warned first) a) (detailed_if q line (Warned second) b) (detailed_clean p line first a)
    (detailed_clean q line second b)

cron_clean : (kind : Kind) (line : ℕ) (text : List ℕ) (job : JobParts) → is_clean (cron_warnings kind line text job) ≡ true
cron_clean kind line text job =
    both_clean (ignored_job kind line text job.command) (other_job line text job.command ++ user_warnings line job.user)
    (details_clean (begins_with_star kind job.command) (is_too_long kind text) line CronIgnores CronIgnores
    (codes "the command begins with *") (codes "command over 998 bytes"))
    (both_clean (other_job line text job.command) (user_warnings line job.user)
    (details_clean (is_setting_of_word text) (has_two_backslashes job.command) line CronDiffers CronDiffers
    (codes "cron reads this as a setting: the command begins with =") (codes "cron removes one of two backslashes"))
    (user_clean line job.user))

pub warnings_clean :
    (clock : Option (List Change)) (kind : Kind) (line : ℕ) (text : List ℕ) (job : JobParts) →
    is_clean (warnings_by clock kind line text job) ≡ true
warnings_clean None kind line text job = refl
warnings_clean (Some clock) kind line text job =
    both_clean (rule_warnings clock line job.rule) (command_warnings line job.command ++ cron_warnings kind line text job)
    (two_clean (not (is_reboot job.rule) && never_starts (rule_in clock job.rule)) (is_either_day job.rule) line NeverStarts EitherDay
    None None)
    (both_clean (command_warnings line job.command) (cron_warnings kind line text job)
    (two_clean (has_bare_percent job.command) (ends_with_return job.command) line Percent CarriageReturn None None)
    (cron_clean kind line text job))

-- the warnings on a line by its place, on a line that makes no job, and on the end of a text
pub place_clean :
    (clock : Option (List Change)) (is_beyond : Bool) (line : ℕ) (text : List ℕ) →
    is_clean (place_warnings clock is_beyond line text) ≡ true
place_clean None is_beyond line text = refl
place_clean (Some clock) is_beyond line text =
    details_clean is_beyond (ends_at_nul text) line CronIgnores CronDiffers (codes "more than 10003 lines")
    (codes "cron ends the line at a NUL byte")

pub line_clean : (clock : Option (List Change)) (line : ℕ) (text : List ℕ) → is_clean (setting_warnings clock line text) ≡ true
line_clean None line text = refl
line_clean (Some clock) line text =
    both_clean (found_if (is_zone_setting text) line (Warned ZoneSetting) None) (found_with (setting_fault text) line (Warned CronIgnores) None)
    (quoting_clean (is_zone_setting text) line ZoneSetting None) (clean_with (setting_fault text) line CronIgnores None)

pub end_clean : (clock : Option (List Change)) (text : List ℕ) → is_clean (end_warnings clock text) ≡ true
end_clean None text = refl
end_clean (Some clock) text = detailed_clean (is_unended text) (length (lines text)) CronIgnores (codes "no newline at its end")

pub setting_clean :
    (clock : Option (List Change)) (line : ℕ) (setting : Option Setting) → is_clean (setting_findings clock line setting) ≡ true
setting_clean clock line None = refl
setting_clean clock line (Some setting) =
    let key = found_if (is_some clock && is_unknown_key setting.0) line (Warned UnknownKey) (Some setting.0) in
    let delay = found_if (is_some clock && is_bad_delay setting) line (Warned BadDelay) (Some setting.1) in
    let truth = found_if (is_some clock && is_bad_boolean setting) line (Warned BadBoolean) (Some setting.1) in
    let unit = found_if (is_some clock && is_bad_unit setting) line (Warned UnitIgnored) (Some setting.1) in
    both_clean key (delay ++ (truth ++ unit)) (quoting_clean (is_some clock && is_unknown_key setting.0) line UnknownKey (Some setting.0))
    (both_clean delay (truth ++ unit) (quoting_clean (is_some clock && is_bad_delay setting) line BadDelay (Some setting.1))
    (both_clean truth unit (quoting_clean (is_some clock && is_bad_boolean setting) line BadBoolean (Some setting.1))
    (quoting_clean (is_some clock && is_bad_unit setting) line UnitIgnored (Some setting.1))))

differences_clean :
    (line : ℕ) (text : List ℕ) (rejected from_end : Option (List ℕ)) (skips : Bool) (stop : Option (List ℕ)) →
    is_clean (difference_findings line text rejected from_end skips stop) ≡ true
differences_clean line text rejected from_end skips stop =
    let refused = found_with rejected line (Warned SystemdRejects) (Some text) in
    let otherwise = found_with from_end line (Warned RangeFromEnd) (Some text) in
    let skipped = found_if skips line (Warned SkippedStarts) (Some text) in
    let stopped = found_with stop line (Warned MayStop) (Some text) in
    both_clean refused (otherwise ++ (skipped ++ stopped)) (clean_with rejected line SystemdRejects (Some text))
    (both_clean otherwise (skipped ++ stopped) (clean_with from_end line RangeFromEnd (Some text))
    (both_clean skipped stopped (quoting_clean skips line SkippedStarts (Some text)) (clean_with stop line MayStop (Some text))))

pub event_warnings_clean :
    (clock : Option (List Change)) (line : ℕ) (text : List ℕ) (event : Calendar) →
    is_clean (event_warnings clock line text event) ≡ true
event_warnings_clean None line text event = refl
event_warnings_clean (Some clock) line text event =
    let never = never_starts (rule_in clock (Events (event ∷ []))) in
    let stop = stop_in (has_changes clock event) (may_stop text event) in
    both_clean (found_if never line (Warned NeverStarts) None)
    (difference_findings line text (rejection_of text) (from_end_of text) (may_skip_starts text event) stop)
    (quoting_clean never line NeverStarts None)
    (differences_clean line text (rejection_of text) (from_end_of text) (may_skip_starts text event) stop)

notes_clean : (number : ℕ) (lines : List (List ℕ)) → is_clean (notes_from number lines) ≡ true
notes_clean number [] = refl
notes_clean number (line ∷ more) =
    both_clean (found_with (line_note line) number (Warned LineEnd) None) (notes_from (number + 1) more)
    (clean_with (line_note line) number LineEnd None) (notes_clean (number + 1) more)

triggers_clean : (bad has : Bool) (held : ℕ) (triggered monotonic : Bool) → is_clean (trigger_warnings bad has held triggered monotonic) ≡ true
triggers_clean bad has held triggered monotonic =
    let rejected = found_with (rejected_whole bad has triggered) 0 (Warned TimerRejected) None in
    let eventless = found_if (is_eventless has held triggered monotonic) 0 (Warned NoEvents) None in
    let spans = found_if monotonic 0 (Warned Monotonic) None in
    both_clean rejected (eventless ++ spans) (clean_with (rejected_whole bad has triggered) 0 TimerRejected None)
    (both_clean eventless spans (quoting_clean (is_eventless has held triggered monotonic) 0 NoEvents None)
    (quoting_clean monotonic 0 Monotonic None))

starts_clean :
    (clock : List Change) (name : List ℕ) (read : TimerText) (draft : Draft) → is_clean (start_warnings clock name read draft) ≡ true
starts_clean clock name read draft =
    let merges = may_merge (rule_in clock (Events draft.events)) (delay_seconds read.options) in
    let delayed = found_if (nat_lt 0 read.options.random) 0 (Warned Delayed) (Some read.delay) in
    let merged = found_if merges 0 (Warned Merged) None in
    let itself = found_if (names_itself name draft.unit) 0 (Warned UnitIgnored) (Some name) in
    both_clean delayed (merged ++ itself) (quoting_clean (nat_lt 0 read.options.random) 0 Delayed (Some read.delay))
    (both_clean merged itself (quoting_clean merges 0 Merged None)
    (quoting_clean (names_itself name draft.unit) 0 UnitIgnored (Some name)))

pub whole_clean :
    (clock : Option (List Change)) (context : TimerContext) (name bytes : List ℕ) (whole : List (ℕ × List ℕ)) →
    is_clean (timer_warnings clock context name bytes whole) ≡ true
whole_clean None context name bytes whole = refl
whole_clean (Some clock) context name bytes whole =
    let read = timer_text context.accuracy whole in
    let draft = lines_draft context.zones whole in
    let triggers = trigger_warnings read.bad_header read.has_section read.held (has_trigger read.settings) read.monotonic in
    let starts = start_warnings clock name read draft in
    let notes = notes_from 1 (lines bytes) in
    both_clean triggers (starts ++ notes)
    (triggers_clean read.bad_header read.has_section read.held (has_trigger read.settings) read.monotonic)
    (both_clean starts notes (starts_clean clock name read draft) (notes_clean 1 (lines bytes)))
