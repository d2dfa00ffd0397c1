-- What the lines of a timer file do to its job, each read by itself, and the meaning of the file (systemd.timer(5)): its job, or
-- its first error with its line.
use Rattle.std.specs.Prelude.{ℕ, ◌+◌, Bool, false, true, ◌||◌, nat_lt, if◌then◌else◌, List, [], ◌∷◌, ◌++◌, map, Option, Some, None, option_map, unwrap_or, Ok, Err, string_bytes}
use Rattle.std.specs.List.{filter_map}
use Rattle.plan_match.specs.declared.event.Calendar.{Calendar}
use Rattle.plan_rules.specs.declared.entry.Entry.{Entry}
use Rattle.plan_rules.specs.declared.line_fault.LineFault.{LineFault}
use Rattle.plan_rules.specs.declared.timer_draft.TimerDraft.{TimerDraft}
use Rattle.plan_rules.specs.declared.timer_events.TimerLine.{TimerLine}
use Rattle.plan_rules.specs.declared.timer_events.TimerLine.TheVariants as does
use Rattle.plan_rules.specs.declared.line_fault.LineCause.TheVariants.{BadTimerName, TooManyLines}
use Rattle.plan_rules.specs.Limits.{most_events}
use Rattle.plan_texts.specs.Steps.{◌>>=◌}
use Rattle.plan_texts.specs.declared.whole_lines.WholeLine.{WholeLine}
use Rattle.plan_texts.specs.WholeLines.{whole_lines, trimmed}
use Rattle.plan_grammar.specs.Event.{event_reading}
use Rattle.plan_grammar.specs.EventZones.{Zones}
use Rattle.plan_rules.specs.Entries.{entry_at, fault_of, faults_of, unless_faulty}
use Rattle.plan_rules.specs.FileText.{text_reading}
use Rattle.plan_rules.specs.Job.{JobParts}
use Rattle.plan_rules.specs.LineFaults.{LineReading, TextReading, in_line, on_line}
use Rattle.plan_rules.specs.Timer.{Effect, Reset, Event, Starts, Nothing, effects_from, has_timer, inside_after, is_timer_name, job_with, line_effect, section_name, setting_of, settings_from}
use Rattle.plan_rules.specs.TimerOptions.{options_of}

-- ---- the list of events, where a rejected event counts like a valid one (agenda)

-- the number of events in the list, and whether an entry for too many events was already made
pub record EventCount : Type 0 where
  pub held : ℕ
  pub told : Bool

-- the state before the first line
abbrev pub no_events : EventCount
no_events = record { held = 0; told = false }

-- the state after an event
abbrev pub after_event_text : EventCount → EventCount
after_event_text count =
    if nat_lt count.held most_events then record count { held = count.held + 1 } else record count { told = true }

-- what a line does to the job of a timer: it does nothing, empties the list of events, has an event of the list or what is wrong
-- with it, or names the unit that is started (systemd.timer(5))
pub data LineStep : Type 0 where
  Idle : LineStep
  Empties : LineStep
  Has : Entry Calendar → LineStep
  Names : (unit : List ℕ) → LineStep

-- what the line with this number does by an event, which may name these zones: if the list already has 64, the event isn't read,
-- and the first such event of a file gets an error (agenda)
abbrev pub event_by : Zones → ℕ → EventCount → List ℕ → LineStep
event_by zones number count text =
    if nat_lt count.held most_events then Has (entry_at number (in_line (event_reading zones text)))
    else (if count.told then Idle else Has (entry_at number (Err TooManyLines)))

-- what the line with this number does, by its effect
abbrev pub line_by : Zones → ℕ → EventCount → Effect → LineStep
line_by zones number count Reset = Empties
line_by zones number count (Event text) = event_by zones number count text
line_by zones number count (Starts unit) = Names unit
line_by zones number count Nothing = Idle

-- the entry of a line's event, if it has one
abbrev pub entry_of : LineStep → Option (Entry Calendar)
entry_of (Has entry) = Some entry
entry_of other = None

-- the error of a line, if it has an event that is rejected
abbrev pub fault_in_line : LineStep → Option LineFault
fault_in_line (Has entry) = fault_of entry
fault_in_line other = None

-- the state after a line; a reset empties the list (systemd.timer(5), `OnCalendar=`)
abbrev pub count_after : EventCount → Effect → EventCount
count_after count Reset = record count { held = 0 }
count_after count (Event text) = after_event_text count
count_after count (Starts unit) = count
count_after count Nothing = count

-- ---- all lines

-- what lines do to the job, by their effects, from a state of the list
abbrev pub steps_from : Zones → EventCount → List (ℕ × Effect) → List LineStep
steps_from zones count [] = []
steps_from zones count ((number, effect) ∷ more) =
    line_by zones number count effect ∷ steps_from zones (count_after count effect) more

-- the entries of the same lines
abbrev pub entries_from : Zones → EventCount → List (ℕ × Effect) → List (Entry Calendar)
entries_from zones count effects = filter_map entry_of (steps_from zones count effects)

-- the state after lines
abbrev pub count_from : EventCount → List (ℕ × Effect) → EventCount
count_from count [] = count
count_from count ((number, effect) ∷ more) = count_from (count_after count effect) more

-- a whole line as the code keeps it: its number and its text, without blanks at its ends
abbrev pub shown_line : WholeLine → ℕ × List ℕ
shown_line line = (line.number, trimmed (string_bytes line.text))

-- the state between two lines: the zones that events may name, whether the next line is in a `[Timer]` section, whether there was
-- one, and the list of events
pub record TimerState : Type 0 where
  pub zones : Zones
  pub inside : Bool
  pub found : Bool
  pub count : EventCount

-- the state before the first line
abbrev pub no_lines : Zones → TimerState
no_lines zones = record { zones = zones; inside = false; found = false; count = no_events }

-- what a line does in a state
abbrev pub effect_in : TimerState → List ℕ → Effect
effect_in state text = line_effect state.inside (section_name text) (setting_of text)

-- what a line with its number does to the job
abbrev pub line_in : TimerState → ℕ × List ℕ → LineStep
line_in state line = line_by state.zones line.0 state.count (effect_in state line.1)

-- the same, as the code says it
abbrev pub line_shown : TimerLine → LineStep
line_shown does.Nothing = Idle
line_shown does.Empties = Empties
line_shown (does.Event entry) = Has entry
line_shown (does.Starts unit) = Names unit.now

-- the state after a line
abbrev pub state_after : TimerState → List ℕ → TimerState
state_after state text = record {
  zones = state.zones;
  inside = inside_after state.inside (section_name text);
  found = state.found || inside_after false (section_name text);
  count = count_after state.count (effect_in state text);
}

-- the number of events in the list after the last of the whole lines, without blanks at their ends
abbrev pub held_after : List (ℕ × List ℕ) → ℕ
held_after lines = (count_from no_events (effects_from false lines)).held

-- the whole lines of a timer file, without blanks at their ends; its bytes are checked first
abbrev pub timer_lines : List ℕ → TextReading (List (ℕ × List ℕ))
timer_lines bytes = do
  text ← text_reading bytes
  Ok (map (λ line. (line.0, trimmed (line.1))) (whole_lines text))

-- ---- the job

-- what lines say of the job: the events in the list, and the unit that is started, if one is named
pub record Draft : Type 0 where
  pub events : List Calendar
  pub unit : Option (List ℕ)

-- the same, as the code keeps it
abbrev pub draft_of : TimerDraft → Draft
draft_of draft = record { events = draft.events; unit = option_map (λ unit. string_bytes unit) draft.unit }

-- before the first line
abbrev pub no_draft : Draft
no_draft = record { events = []; unit = None }

-- with an event at the end of the list; a rejected event isn't added (agenda)
abbrev pub with_event : Draft → LineReading Calendar → Draft
with_event draft (Ok event) = record draft { events = draft.events ++ event ∷ [] }
with_event draft (Err cause) = draft

-- after a line; only the first unit that is named counts (agenda)
abbrev pub draft_after : Draft → LineStep → Draft
draft_after draft Idle = draft
draft_after draft Empties = record draft { events = [] }
draft_after draft (Has entry) = with_event draft entry.read
draft_after draft (Names unit) = record draft { unit = Some (unwrap_or draft.unit unit) }

-- after lines
abbrev pub draft_from : Draft → List LineStep → Draft
draft_from draft [] = draft
draft_from draft (step ∷ more) = draft_from (draft_after draft step) more

-- what all lines do, and what they say of the job
abbrev pub all_steps : Zones → List (ℕ × List ℕ) → List LineStep
all_steps zones lines = steps_from zones no_events (effects_from false lines)

abbrev pub lines_draft : Zones → List (ℕ × List ℕ) → Draft
lines_draft zones lines = draft_from no_draft (all_steps zones lines)

-- ---- a timer file

-- the job of a timer's whole lines, without blanks at their ends. The first rejected event is the error of the file, even if a
-- later line empties the list; a missing `[Timer]` section is the last error to be found (agenda)
abbrev pub timer_of_lines : Zones → (name : List ℕ) → List (ℕ × List ℕ) → TextReading JobParts
timer_of_lines zones name lines = do
  draft ← unless_faulty (faults_of (filter_map entry_of (all_steps zones lines))) (lines_draft zones lines)
  job_with (has_timer lines) name draft.unit draft.events (options_of (settings_from false lines))

-- the meaning of a timer file whose events may name these zones: its name is checked first, then its bytes, then its lines are
-- read (agenda)
abbrev pub timer_reading : Zones → (name bytes : List ℕ) → TextReading JobParts
timer_reading zones name bytes =
    if is_timer_name name
    then (do
      lines ← timer_lines bytes
      timer_of_lines zones name lines)
    else on_line 0 (Err BadTimerName)
