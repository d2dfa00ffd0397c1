-- Whether anything starts a timer (systemd.timer(5), timer_verify of systemd 252).
use Rattle.std.specs.Prelude.{ℕ, ◌-◌, Bool, false, not, ◌&&◌, ◌||◌, ◌==◌, if◌then◌else◌, List, length, drop, fold, codes, is_none, Option, Some, None}
use Rattle.std.specs.List.{list_any, suffix_len}
use Rattle.std.specs.Str.{bytes_eq}
use Rattle.plan_rules.specs.Timer.{is_reset}
use Rattle.plan_rules.specs.TimerOptions.{Setting}
use Rattle.plan_spans.specs.Booleans.{boolean_after}
use Rattle.plan_systemd.specs.Rejection.{rejection_of}
use Rattle.plan_triggers.specs.TimerFile.{is_elapsing_span}

-- a setting adds an event
abbrev pub is_event : Setting → Bool
is_event setting = bytes_eq setting.0 (codes "OnCalendar") && not (length setting.1 == 0)

-- a setting adds an event that systemd accepts, or one that agenda rejects
abbrev pub is_accepted_event : Setting → Bool
is_accepted_event setting = is_event setting && is_none (rejection_of setting.1)

-- a setting makes the timer elapse, unless a later one empties the list of its triggers
abbrev pub is_trigger : Setting → Bool
is_trigger setting = is_accepted_event setting || is_elapsing_span setting

-- the settings after the last one that empties the list of triggers (systemd.timer(5), `OnCalendar=`)
abbrev pub after_resets : List Setting → List Setting
after_resets settings = drop (length settings - suffix_len (λ setting. not (is_reset setting)) settings) settings

-- the last boolean value of a key is true
abbrev pub is_on : (key : List ℕ) → List Setting → Bool
is_on key settings = fold (boolean_after key) false settings

-- something starts the timer: a trigger, or a change of the clock or of the time zone
abbrev pub has_trigger : List Setting → Bool
has_trigger settings =
    is_on (codes "OnClockChange") settings
    || (is_on (codes "OnTimezoneChange") settings || list_any is_trigger (after_resets settings))

-- systemd rejects the whole timer: a section has a bad header, or nothing starts the timer
abbrev pub rejected_whole : (has_bad_header has_timer has_trigger : Bool) → Option (List ℕ)
rejected_whole bad has triggered =
    if bad then Some (codes "file: bad section header")
    else (if has && not triggered then Some (codes "timer: it has no valid trigger") else None)
