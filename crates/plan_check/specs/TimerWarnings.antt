-- The warnings on a whole timer (systemd.timer(5)). Which there are, and their order, is our choice (agenda).
use Rattle.std.specs.Prelude.{ℕ, ◌+◌, Bool, false, not, ◌&&◌, ◌==◌, nat_lt, if◌then◌else◌, List, [], ◌∷◌, ◌++◌, codes, Option, Some, None}
use Rattle.std.specs.Option.{option_map_or}
use Rattle.std.specs.Str.{bytes_eq}
use Rattle.plan_clock.specs.declared.row.Change.{Change}
use Rattle.plan_match.specs.Zone.{rule_in}
use Rattle.plan_match.specs.declared.rule.Rule.TheVariants.{Events}
use Rattle.plan_rules.specs.Timer.{has_timer, settings_from}
use Rattle.plan_rules.specs.TimerOptions.{Setting, delay_seconds, options_with}
use Rattle.plan_rules.specs.TimerEntries.{Draft, held_after, lines_draft}
use Rattle.plan_rules.specs.declared.timer_options.TimerOptions.{TimerOptions}
use Rattle.plan_systemd.specs.Merged.{may_merge}
use Rattle.plan_texts.specs.Lines.{lines}
use Rattle.plan_triggers.specs.TimerFile.{has_bad_header, line_note}
use Rattle.plan_triggers.specs.Triggers.{has_trigger, rejected_whole}
use Rattle.plan_check.specs.declared.context.TimerContext.{TimerContext}
use Rattle.plan_check.specs.declared.finding.Finding.{Finding}
use Rattle.plan_check.specs.declared.finding.Warning.TheVariants.{NoEvents, Monotonic, Delayed, Merged, TimerRejected, UnitIgnored, LineEnd}
use Rattle.plan_check.specs.declared.finding.FindingKind.TheVariants.{Warned}
use Rattle.plan_check.specs.Context.{options_by}
use Rattle.plan_check.specs.Finding.{found_if, found_with}
use Rattle.plan_check.specs.Settings.{is_monotonic, last_delay}

-- ---- lines of the text

-- the lines to which it does something, the first of which has this number
abbrev pub notes_from : (number : ℕ) → List (List ℕ) → List Finding
notes_from number [] = []
notes_from number (line ∷ more) =
    found_with (line_note line) number (Warned LineEnd) None ++ notes_from (number + 1) more

-- ---- the triggers

-- the timer has a section and no event, and starts by a change of the clock or of the time zone alone
abbrev pub is_eventless : (has_timer : Bool) → (held : ℕ) → (has_trigger is_monotonic : Bool) → Bool
is_eventless has held triggered monotonic = (has && (held == 0)) && (triggered && not monotonic)

abbrev pub trigger_warnings : (bad has : Bool) → (held : ℕ) → (triggered monotonic : Bool) → List Finding
trigger_warnings bad has held triggered monotonic =
    found_with (rejected_whole bad has triggered) 0 (Warned TimerRejected) None
    ++ (found_if (is_eventless has held triggered monotonic) 0 (Warned NoEvents) None
    ++ found_if monotonic 0 (Warned Monotonic) None)

-- ---- the unit

-- the timer would start itself
abbrev pub names_itself : (name : List ℕ) → (unit : Option (List ℕ)) → Bool
names_itself name unit = option_map_or (bytes_eq name) unit false

-- ---- a timer

-- what the lines of a timer say: whether a section has a bad header, whether there is a `[Timer]` section, how many events are in the
-- list, whether the timer elapses by monotonic settings, its options, the last random delay as it is written, and its settings
pub record TimerText : Type 0 where
  pub bad_header : Bool
  pub has_section : Bool
  pub held : ℕ
  pub monotonic : Bool
  pub options : TimerOptions
  pub delay : List ℕ
  pub settings : List Setting

abbrev pub timer_text : (accuracy : ℕ) → List (ℕ × List ℕ) → TimerText
timer_text accuracy whole = record {
  bad_header = has_bad_header whole;
  has_section = has_timer whole;
  held = held_after whole;
  monotonic = is_monotonic (settings_from false whole);
  options = options_with (options_by accuracy) (settings_from false whole);
  delay = last_delay (settings_from false whole);
  settings = settings_from false whole;
}

-- the warnings on when the timer starts, by the clock of a zone
abbrev pub start_warnings : List Change → (name : List ℕ) → TimerText → Draft → List Finding
start_warnings clock name read draft =
    found_if (nat_lt 0 read.options.random) 0 (Warned Delayed) (Some read.delay)
    ++ (found_if (may_merge (rule_in clock (Events draft.events)) (delay_seconds read.options)) 0 (Warned Merged) None
    ++ found_if (names_itself name draft.unit) 0 (Warned UnitIgnored) (Some name))

-- the warnings on the whole timer, in this order, and on lines that systemd reads otherwise
abbrev pub whole_warnings : List Change → (name text : List ℕ) → TimerText → Draft → List Finding
whole_warnings clock name text read draft =
    trigger_warnings read.bad_header read.has_section read.held (has_trigger read.settings) read.monotonic
    ++ (start_warnings clock name read draft ++ notes_from 1 (lines text))

-- the same, if there is a clock: without one there are none
abbrev pub timer_warnings_by : Option (List Change) → (name text : List ℕ) → TimerText → Draft → List Finding
timer_warnings_by None name text read draft = []
timer_warnings_by (Some clock) name text read draft = whole_warnings clock name text read draft

-- the same by the lines of the timer
abbrev pub timer_warnings : Option (List Change) → TimerContext → (name text : List ℕ) → List (ℕ × List ℕ) → List Finding
timer_warnings clock context name text whole =
    timer_warnings_by clock name text (timer_text context.accuracy whole) (lines_draft context.zones whole)
