-- What the settings of a timer say beside its events (systemd.timer(5)): how long after the times of its events its job may still
-- start, by `RandomizedDelaySec=` and `AccuracySec=`, and whether it makes up for a start that was missed, by `Persistent=`.
use Rattle.std.specs.Prelude.{ℕ, ◌+◌, Bool, false, if◌then◌else◌, min, List, [], ◌∷◌, codes, Option, Some, None, unwrap_or}
use Rattle.std.specs.Int.{div_ceil}
use Rattle.std.specs.List.{filter_map}
use Rattle.std.specs.Str.{bytes_eq}
use Rattle.plan_sets.specs.Limits.{end_second}
use Rattle.plan_spans.specs.Booleans.{boolean_after, boolean_of}
use Rattle.plan_spans.specs.Spans.{time_span}
use Rattle.plan_rules.specs.declared.timer_options.TimerOptions.{TimerOptions}

-- ---- one key

-- a setting: its key and its value (systemd.syntax(7))
abbrev pub Setting : Type 0
Setting = List ℕ × List ℕ

-- the keys of the random delay and of the accuracy (systemd.timer(5))
abbrev pub random_key : List ℕ
random_key = codes "RandomizedDelaySec"

abbrev pub accuracy_key : List ℕ
accuracy_key = codes "AccuracySec"

-- the key of persistence (systemd.timer(5))
abbrev pub persistent_key : List ℕ
persistent_key = codes "Persistent"

-- the time span of a setting with this key, in microseconds; a value that isn't a time span is ignored, and so is an empty one
-- (systemd 252)
abbrev pub span_of : (key : List ℕ) → Setting → Option ℕ
span_of key setting = if bytes_eq setting.0 key then time_span setting.1 else None

-- the last element of a list, or this one if the list is empty
abbrev pub last_or : {A : Type 0} → A → List A → A
last_or x [] = x
last_or x (next ∷ more) = last_or next more

-- the last time span that settings give this key, or this one if they give none (systemd 252)
abbrev pub last_span : (key : List ℕ) → (otherwise : ℕ) → List Setting → ℕ
last_span key otherwise settings = last_or otherwise (filter_map (span_of key) settings)

-- the last boolean that settings give this key, or this one if they give none (systemd 252)
abbrev pub last_boolean : (key : List ℕ) → (otherwise : Bool) → List Setting → Bool
last_boolean key otherwise settings = last_or otherwise (filter_map (boolean_of key) settings)

-- ---- all keys

-- the options without any setting: no random delay, an accuracy of a minute, and no persistence (systemd.timer(5))
abbrev pub default_options : TimerOptions
default_options = record { random = 0; accuracy = 60_000_000; persistent = false }

-- the options that settings give, or these
abbrev pub options_with : TimerOptions → List Setting → TimerOptions
options_with options settings = record {
  random = last_span random_key options.random settings;
  accuracy = last_span accuracy_key options.accuracy settings;
  persistent = last_boolean persistent_key options.persistent settings;
}

-- the options of a timer with these settings
abbrev pub options_of : List Setting → TimerOptions
options_of settings = options_with default_options settings

-- the delay in seconds: the sum of both time spans, rounded up, at most the end of the planner's years (agenda)
abbrev pub delay_seconds : TimerOptions → ℕ
delay_seconds options = min (div_ceil (options.random + options.accuracy) 1_000_000) end_second

-- ---- the settings so far

-- the time span of a key after one more line, by the time span before it
abbrev pub span_after : (key : List ℕ) → (before : ℕ) → Option Setting → ℕ
span_after key before None = before
span_after key before (Some setting) = unwrap_or (span_of key setting) before

-- whether the timer is persistent after one more line, by whether it was before it
abbrev pub persistent_after : (before : Bool) → Option Setting → Bool
persistent_after before None = before
persistent_after before (Some setting) = boolean_after persistent_key before setting

-- the options after one more line
abbrev pub options_after : TimerOptions → Option Setting → TimerOptions
options_after options setting = record {
  random = span_after random_key options.random setting;
  accuracy = span_after accuracy_key options.accuracy setting;
  persistent = persistent_after options.persistent setting;
}
