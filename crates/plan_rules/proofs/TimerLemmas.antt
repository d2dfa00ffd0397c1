-- A timer file that is read line by line: for the loop of `timer_of_lines`.
-- The state and the remaining lines together mean what the whole file means (`rest_reading`), from one line to the next.
use Rattle.std.proofs.Common.{◌≡◌, ℕ, Bool, ◌+◌, ◌<◌, ◌||◌, true, false, min, List, length, drop, get_or, map, Option, Some, None, Ok, Err, unwrap_or, refl, ap, sym, ◌∙◌, arith}
use Rattle.std.proofs.Math.Bool.{or_assoc}
use Rattle.std.specs.Int.{div_ceil}
use Rattle.std.specs.List.{cons_option, filter_map}
use Rattle.std.specs.Str.{bytes_eq}
use Rattle.plan_sets.specs.Limits.{end_second}
use Rattle.plan_spans.specs.Booleans.{boolean_of}
use Rattle.plan_spans.specs.Spans.{time_span}
use Rattle.plan_match.specs.declared.event.Calendar.{Calendar}
use Rattle.plan_texts.specs.Steps.{◌>>=◌}
use Rattle.plan_rules.specs.declared.entry.Entry.{Entry}
use Rattle.plan_rules.specs.declared.line_fault.LineFault.{LineFault}
use Rattle.plan_rules.specs.declared.timer_options.TimerOptions.{TimerOptions}
use Rattle.plan_rules.specs.Entries.{fault_on, faults_of, unless_faulty}
use Rattle.plan_rules.specs.Job.{JobParts}
use Rattle.plan_rules.specs.LineFaults.{LineReading, TextReading}
use Rattle.plan_rules.specs.Timer.{effects_from, has_timer, inside_after, job_with, section_name, settings_from, timer_setting}
use Rattle.plan_rules.specs.TimerOptions.{Setting, accuracy_key, last_boolean, last_or, last_span, options_after, options_with, persistent_after, persistent_key, random_key, span_after, span_of}
use Rattle.plan_rules.specs.TimerEntries.{Draft, LineStep, Idle, Empties, Has, Names, TimerState, draft_after, draft_from, entries_from, entry_of, line_in, fault_in_line, state_after, steps_from}
use Rattle.plan_rules.proofs.TimerEntryLemmas.{lines_more}

-- ---- the delay

-- a setting with the key
pub span_given :
    (key name value : List ℕ) (before : ℕ) → bytes_eq name key ≡ true →
    span_after key before (Some (name, value)) ≡ unwrap_or (time_span value) before
span_given key name value before same = rw same refl

-- a sum that is cut at the greatest number is later than the end
pub capped :
    (sum : ℕ) → min (div_ceil (min sum 18_446_744_073_709_551_615) 1_000_000) end_second ≡ min (div_ceil sum 1_000_000) end_second
capped sum = grind arith

last_front :
    {A : Type 0} (before : A) (next : Option A) (more : List A) →
    last_or before (cons_option next more) ≡ last_or (unwrap_or next before) more
last_front before None more = refl
last_front before (Some next) more = refl

-- the time span of a key, by the one before a line
span_front :
    (key : List ℕ) (before : ℕ) (setting : Option Setting) (more : List Setting) →
    last_span key before (cons_option setting more) ≡ last_span key (span_after key before setting) more
span_front key before None more = refl
span_front key before (Some setting) more = last_front before (span_of key setting) (filter_map (span_of key) more)

-- whether the timer is persistent, by whether it was before a line
persistent_front :
    (before : Bool) (setting : Option Setting) (more : List Setting) →
    last_boolean persistent_key before (cons_option setting more) ≡ last_boolean persistent_key (persistent_after before setting) more
persistent_front before None more = refl
persistent_front before (Some setting) more =
    last_front before (boolean_of persistent_key setting) (filter_map (boolean_of persistent_key) more)

-- the options, by those before a line
pub options_front :
    (options : TimerOptions) (setting : Option Setting) (more : List Setting) →
    options_with options (cons_option setting more) ≡ options_with (options_after options setting) more
options_front options setting more = λ i. record {
  random = span_front random_key options.random setting more i;
  accuracy = span_front accuracy_key options.accuracy setting more i;
  persistent = persistent_front options.persistent setting more i;
}

-- ---- the file, from the remaining lines

-- a result, unless there is an error
abbrev pub unless_fault : {A : Type 0} → Option LineFault → TextReading A → TextReading A
unless_fault None reading = reading
unless_fault (Some fault) reading = Err fault

-- the meaning of a file, from the state and the remaining lines
abbrev pub rest_reading : List ℕ → TimerState → Draft → TimerOptions → List (ℕ × List ℕ) → TextReading JobParts
rest_reading name state draft options lines =
    let effects = effects_from state.inside lines in
    unless_faulty (faults_of (entries_from state.zones state.count effects))
    (draft_from draft (steps_from state.zones state.count effects))
    >>= λ all. job_with (state.found || has_timer lines) name all.unit all.events
    (options_with options (settings_from state.inside lines))

event_first :
    {A B : Type 0} (number : ℕ) (read : LineReading A) (more : List LineFault) (draft : Draft) (next : Draft → TextReading B) →
    (unless_faulty (cons_option (fault_on number read) more) draft >>= next)
    ≡ unless_fault (fault_on number read) (unless_faulty more draft >>= next)
event_first number (Ok event) more draft next = refl
event_first number (Err cause) more draft next = refl

step_first :
    {B : Type 0} (step : LineStep) (more : List (Entry Calendar)) (draft : Draft) (next : Draft → TextReading B) →
    (unless_faulty (faults_of (cons_option (entry_of step) more)) draft >>= next)
    ≡ unless_fault (fault_in_line step) (unless_faulty (faults_of more) draft >>= next)
step_first (Has entry) more draft next = event_first entry.line entry.read (faults_of more) draft next
step_first Idle more draft next = refl
step_first Empties more draft next = refl
step_first (Names unit) more draft next = refl

-- the line at a position
pub rest_reading-more :
    {A : Type 0} (v : A → ℕ × List ℕ) (name : List ℕ) (state : TimerState) (draft : Draft) (options : TimerOptions) (lines : List A)
    (place : ℕ) (line : A) (fault : Option LineFault) → place < length lines → line ≡ get_or lines place line →
    fault ≡ fault_in_line (line_in state (v line)) →
    rest_reading name state draft options (map v (drop place lines))
    ≡ unless_fault fault (rest_reading name (state_after state (v line).1) (draft_after draft (line_in state (v line)))
    (options_after options (timer_setting state.inside (v line).1)) (map v (drop (place + 1) lines)))
rest_reading-more v name state draft options lines place line fault inside is same =
    let text = (v line).1 in
    let step = line_in state (v line) in
    let after = state_after state text in
    let more = map v (drop (place + 1) lines) in
    let effects = effects_from after.inside more in
    ap (rest_reading name state draft options) (lines_more v lines place line inside is)
    ∙ (λ i. unless_faulty (faults_of (cons_option (entry_of step) (entries_from after.zones after.count effects)))
    (draft_from (draft_after draft step) (steps_from after.zones after.count effects))
    >>= λ all. job_with (sym (or_assoc state.found (inside_after false (section_name text)) (has_timer more)) i) name all.unit all.events
    (options_front options (timer_setting state.inside text) (settings_from after.inside more) i))
    ∙ step_first step (entries_from after.zones after.count effects) _ _
    ∙ ap (λ found. unless_fault found (rest_reading name after (draft_after draft step)
    (options_after options (timer_setting state.inside text)) more)) (sym same)
