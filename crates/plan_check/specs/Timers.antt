-- The findings of a timer file (systemd.timer(5)). Which findings there are, and their order, is our choice (agenda).
use Rattle.std.specs.Prelude.{ℕ, Bool, false, true, not, ◌&&◌, ◌==◌, nat_lt, if◌then◌else◌, List, [], ◌∷◌, ◌++◌, length, Option, Some, None, is_some, Ok, Err}
use Rattle.plan_clock.specs.declared.row.Change.{Change}
use Rattle.plan_match.specs.Zone.{event_in, rule_in}
use Rattle.plan_match.specs.declared.event.Calendar.{Calendar}
use Rattle.plan_match.specs.declared.rule.Rule.TheVariants.{Events}
use Rattle.plan_rules.specs.declared.line_fault.LineCause.{LineCause}
use Rattle.plan_rules.specs.declared.line_fault.LineCause.TheVariants.{NoTimerSection, Rule}
use Rattle.plan_rules.specs.Job.{JobParts}
use Rattle.plan_rules.specs.LineFaults.{LineReading, TextReading}
use Rattle.plan_rules.specs.Timer.{has_timer, is_timer_name, settings_from, timer_job, timer_setting}
use Rattle.plan_rules.specs.TimerOptions.{Setting}
use Rattle.plan_rules.specs.TimerEntries.{LineStep, Idle, Empties, Has, Names, TimerState, line_in, lines_draft, no_lines, state_after}
use Rattle.plan_check.specs.declared.context.TimerContext.{TimerContext}
use Rattle.plan_check.specs.declared.finding.Finding.{Finding}
use Rattle.plan_check.specs.declared.finding.Warning.TheVariants.{NeverStarts, SkippedStarts, UnknownKey, BadBoolean, BadDelay, MayStop, RangeFromEnd, SystemdRejects, UnitIgnored}
use Rattle.plan_check.specs.declared.finding.FindingKind.TheVariants.{Rejected, Warned}
use Rattle.plan_check.specs.Context.{options_in}
use Rattle.plan_check.specs.Finding.{error_at, found_if, found_with, rejected_at}
use Rattle.plan_check.specs.Known.{KnownJobs, after_job, after_other, job_findings}
use Rattle.plan_check.specs.Settings.{is_bad_delay, is_unknown_key, value_of}
use Rattle.plan_check.specs.TimerWarnings.{timer_warnings}
use Rattle.plan_triggers.specs.TimerFile.{is_bad_boolean, is_bad_unit}
use Rattle.plan_systemd.specs.EventHint.{event_hint}
use Rattle.plan_systemd.specs.FromEnd.{from_end_of}
use Rattle.plan_systemd.specs.MayStop.{may_stop}
use Rattle.plan_systemd.specs.Rejection.{rejection_of}
use Rattle.plan_systemd.specs.Skipped.{may_skip_starts}
use Rattle.plan_check.specs.Warnings.{never_starts}

-- ---- one line

-- an error of an event quotes the event; no other error of a line quotes a text (agenda)
abbrev pub event_quote : (event : List ℕ) → LineCause → Option (List ℕ)
event_quote event (Rule fault) = Some event
event_quote event other = None

-- the clock of an event has changes, in the zone of a clock
abbrev pub has_changes : List Change → Calendar → Bool
has_changes clock event = nat_lt 0 (length (event_in clock event).clock)

-- what to write for an event at which systemd may stop for good; it doesn't in UTC
abbrev pub stop_in : (has_changes : Bool) → (stop : Option (List ℕ)) → Option (List ℕ)
stop_in true stop = stop
stop_in false stop = None

-- how systemd reads an event with this text otherwise, if it does; each finding quotes the event
abbrev pub difference_findings :
    ℕ → (text : List ℕ) → (rejected from_end : Option (List ℕ)) → (skips : Bool) → (stop : Option (List ℕ)) → List Finding
difference_findings line text rejected from_end skips stop =
    found_with rejected line (Warned SystemdRejects) (Some text)
    ++ (found_with from_end line (Warned RangeFromEnd) (Some text)
    ++ (found_if skips line (Warned SkippedStarts) (Some text) ++ found_with stop line (Warned MayStop) (Some text)))

-- the warnings on an event: a job with only this event never starts, by the clock of a zone, or systemd reads the event otherwise.
-- Without a clock there are no warnings
abbrev pub event_warnings : Option (List Change) → ℕ → (text : List ℕ) → Calendar → List Finding
event_warnings None line text event = []
event_warnings (Some clock) line text event =
    found_if (never_starts (rule_in clock (Events (event ∷ [])))) line (Warned NeverStarts) None
    ++ difference_findings line text (rejection_of text) (from_end_of text) (may_skip_starts text event)
    (stop_in (has_changes clock event) (may_stop text event))

-- the findings of an event: its error, or the warnings on it
abbrev pub read_findings : Option (List Change) → ℕ → (text : List ℕ) → LineReading Calendar → List Finding
read_findings clock line text (Ok event) = event_warnings clock line text event
read_findings clock line text (Err cause) = error_at line cause (event_quote text cause) (event_hint text) ∷ []

-- the findings of what a line does, with its setting: those of its event
abbrev pub step_findings : Option (List Change) → Option Setting → LineStep → List Finding
step_findings clock setting (Has entry) = read_findings clock entry.line (value_of setting) entry.read
step_findings clock setting Idle = []
step_findings clock setting Empties = []
step_findings clock setting (Names unit) = []

-- the warnings on a line's setting, if there are to be warnings: on its key, and on its value. Each quotes what it is about
abbrev pub setting_findings : Option (List Change) → ℕ → Option Setting → List Finding
setting_findings clock line None = []
setting_findings clock line (Some setting) =
    found_if (is_some clock && is_unknown_key setting.0) line (Warned UnknownKey) (Some setting.0)
    ++ (found_if (is_some clock && is_bad_delay setting) line (Warned BadDelay) (Some setting.1)
    ++ (found_if (is_some clock && is_bad_boolean setting) line (Warned BadBoolean) (Some setting.1)
    ++ found_if (is_some clock && is_bad_unit setting) line (Warned UnitIgnored) (Some setting.1)))

-- the findings of a line, in the state before it
abbrev pub line_findings : Option (List Change) → TimerState → ℕ × List ℕ → List Finding
line_findings clock state line =
    step_findings clock (timer_setting state.inside line.1) (line_in state line)
    ++ setting_findings clock line.0 (timer_setting state.inside line.1)

-- the findings of lines, in order
abbrev pub lines_findings : Option (List Change) → TimerState → List (ℕ × List ℕ) → List Finding
lines_findings clock state [] = []
lines_findings clock state (line ∷ more) = line_findings clock state line ++ lines_findings clock (state_after state line.1) more

-- ---- a timer file

-- the findings of the whole lines of a text: first those of the whole file, then those of its lines. Each timer makes a job,
-- whatever else is rejected, unless the file's name is bad. A text that is too large or not UTF-8 has no lines, and no missing
-- section is reported
abbrev pub timer_findings : TimerContext → KnownJobs → (name bytes : List ℕ) → TextReading (List (ℕ × List ℕ)) → List Finding
timer_findings context known name bytes (Ok lines) =
    found_if (not (has_timer lines)) 0 (Rejected NoTimerSection) None
    ++ (job_findings known 0 name
    ++ (timer_warnings known.clock context name bytes lines ++ lines_findings known.clock (no_lines context.zones) lines))
timer_findings context known name bytes (Err fault) = rejected_at fault.line fault.cause ∷ job_findings known 0 name

-- ---- the job that is kept

-- the job of a timer with the events that are right, whatever else is rejected
abbrev pub right_job : TimerContext → List ℕ → List (ℕ × List ℕ) → JobParts
right_job context name lines =
    timer_job name (lines_draft context.zones lines).unit (lines_draft context.zones lines).events
    (options_in context (settings_from false lines))

-- what is known after a timer: its job is kept if nothing of the whole file is rejected
abbrev pub after_timer : TimerContext → KnownJobs → List ℕ → TextReading (List (ℕ × List ℕ)) → KnownJobs
after_timer context known name (Ok lines) =
    if is_timer_name name && has_timer lines then after_job known (right_job context name lines) else after_other known name
after_timer context known name (Err fault) = after_other known name
