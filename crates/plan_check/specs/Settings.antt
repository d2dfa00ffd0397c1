-- The settings in the `[Timer]` sections of a timer file, and what they say of the whole timer (systemd.timer(5), systemd.syntax(7)).
use Rattle.std.specs.Prelude.{ℕ, Bool, false, not, ◌&&◌, ◌||◌, ◌==◌, nat_lt, if◌then◌else◌, List, [], ◌∷◌, filter, length, map, codes, Option, Some, None, is_none, is_some}
use Rattle.std.specs.List.{list_any}
use Rattle.std.specs.Str.{bytes_eq}
use Rattle.plan_spans.specs.Spans.{time_span}
use Rattle.plan_rules.specs.Timer.{is_reset, monotonic_keys}
use Rattle.plan_rules.specs.TimerOptions.{Setting, accuracy_key, options_after, last_or, last_span, random_key, span_of}
use Rattle.plan_check.specs.declared.settings.Standing.{Standing}

-- ---- one setting

-- the value of a setting, or nothing
abbrev pub value_of : Option Setting → List ℕ
value_of None = []
value_of (Some setting) = setting.1

-- the keys of the `[Timer]` section (systemd.timer(5), of systemd 252)
abbrev pub timer_keys : List (List ℕ)
timer_keys =
    codes "OnActiveSec" ∷ codes "OnBootSec" ∷ codes "OnStartupSec" ∷ codes "OnUnitActiveSec" ∷ codes "OnUnitInactiveSec"
    ∷ codes "OnCalendar" ∷ codes "AccuracySec" ∷ codes "RandomizedDelaySec" ∷ codes "FixedRandomDelay" ∷ codes "OnClockChange"
    ∷ codes "OnTimezoneChange" ∷ codes "Unit" ∷ codes "WakeSystem" ∷ codes "Persistent" ∷ codes "RemainAfterElapse" ∷ []

-- a key is none of these; keys are compared exactly (systemd.syntax(7))
abbrev pub is_unknown_key : List ℕ → Bool
is_unknown_key key = not (list_any (bytes_eq key) timer_keys)

-- a setting of a monotonic timer, such as `OnBootSec=`, has a value (systemd.timer(5))
abbrev pub is_span : Setting → Bool
is_span setting = list_any (bytes_eq setting.0) monotonic_keys && not (length setting.1 == 0)

-- a setting is that of the random delay, and its value is a time span (systemd.timer(5), `RandomizedDelaySec=`)
abbrev pub is_delay : Setting → Bool
is_delay setting = is_some (span_of random_key setting)

-- a setting is that of the random delay or of the accuracy, and its value is neither empty nor a time span (systemd.timer(5))
abbrev pub is_bad_delay : Setting → Bool
is_bad_delay setting =
    list_any (bytes_eq setting.0) (random_key ∷ accuracy_key ∷ [])
    && (not (length setting.1 == 0) && is_none (time_span setting.1))

-- ---- all settings

-- a setting that passes a test stands: no later one revokes it
abbrev pub stands : (test revokes : Setting → Bool) → List Setting → Bool
stands test revokes [] = false
stands test revokes (setting ∷ more) = (test setting && not (list_any revokes more)) || stands test revokes more

-- the timer also elapses by monotonic settings: one has a value after the last setting that empties the list
abbrev pub is_monotonic : List Setting → Bool
is_monotonic settings = stands is_span is_reset settings

-- the timer elapses later than at its events: its random delay is above 0 (systemd.timer(5), `RandomizedDelaySec=`)
abbrev pub is_delayed : List Setting → Bool
is_delayed settings = nat_lt 0 (last_span random_key 0 settings)

-- the last value of the random delay that is a time span
abbrev pub last_delay : List Setting → List ℕ
last_delay settings = last_or [] (map (λ setting. setting.1) (filter is_delay settings))

-- ---- the settings so far

-- the last such value after one more line, by the one before it
abbrev pub delay_after : List ℕ → Option Setting → List ℕ
delay_after before None = before
delay_after before (Some setting) = if is_delay setting then setting.1 else before

-- whether such a setting stands after one more setting, by whether one stands before it
abbrev pub stands_after : (test revokes : Setting → Bool) → Bool → Option Setting → Bool
stands_after test revokes before None = before
stands_after test revokes before (Some setting) = test setting || (before && not (revokes setting))

-- what stands after one more line
abbrev pub standing_after : Standing → Option Setting → Standing
standing_after standing setting = record {
  monotonic = stands_after is_span is_reset standing.monotonic setting;
  options = options_after standing.options setting;
}
