-- The sentences of the events of a timer (agenda).
use Rattle.std.specs.Prelude.{ℕ, List, [], ◌∷◌, ◌++◌, codes, map, Option, None, Some, Result, Ok, Err}
use Rattle.std.specs.List.{flat_map}
use Rattle.plan_match.specs.declared.event.Calendar.{Calendar}
use Rattle.plan_grammar.specs.EventZones.{Zones}
use Rattle.plan_rules.specs.LineFaults.{LineReading, TextReading}
use Rattle.plan_rules.specs.Names.{with_name}
use Rattle.plan_rules.specs.Timer.{timer_setting}
use Rattle.plan_rules.specs.TimerOptions.{Setting}
use Rattle.plan_rules.specs.TimerEntries.{Empties, Has, LineStep, TimerState, line_in, no_lines, state_after, timer_lines}
use Rattle.agenda_describe.specs.Sentences.{event_sentence}

-- the value of a setting
abbrev pub value_of : Option Setting → List ℕ
value_of None = []
value_of (Some setting) = setting.1

-- sentences with that of an event, which was read from this text, unless it is rejected. Each sentence is there once
abbrev pub with_reading : List (List ℕ) → (text : List ℕ) → LineReading Calendar → List (List ℕ)
with_reading found text (Ok event) = with_name found (event_sentence event text)
with_reading found text (Err cause) = found

-- the sentences after a line of a timer, by its setting and by what it does: a reset empties the list of events (systemd.timer(5))
abbrev pub sentences_by : List (List ℕ) → Option Setting → LineStep → List (List ℕ)
sentences_by found setting Empties = []
sentences_by found setting (Has entry) = with_reading found (value_of setting) entry.read
sentences_by found setting other = found

-- the same for a line with its number
abbrev pub sentences_after : TimerState → List (List ℕ) → ℕ × List ℕ → List (List ℕ)
sentences_after state found line = sentences_by found (timer_setting state.inside line.1) (line_in state line)

-- the sentences after lines
abbrev pub sentences_from : TimerState → List (List ℕ) → List (ℕ × List ℕ) → List (List ℕ)
sentences_from state found [] = found
sentences_from state found (line ∷ more) = sentences_from (state_after state line.1) (sentences_after state found line) more

-- a sentence after another one
abbrev pub next_sentence : List ℕ → List ℕ
next_sentence sentence = codes "; " ++ sentence

abbrev pub more_sentences : List (List ℕ) → List ℕ
more_sentences sentences = flat_map next_sentence sentences

-- sentences, joined
abbrev pub joined : List (List ℕ) → List ℕ
joined [] = codes "never"
joined (first ∷ more) = first ++ more_sentences more

-- the sentences of a text of lines, if it is one
abbrev pub sentences_in : Zones → TextReading (List (ℕ × List ℕ)) → List (List ℕ)
sentences_in zones (Ok lines) = sentences_from (no_lines zones) [] lines
sentences_in zones (Err fault) = []

-- the sentences of the events in a timer file, those of the list after its last line
abbrev pub timer_sentence : Zones → (bytes : List ℕ) → List ℕ
timer_sentence zones bytes = joined (sentences_in zones (timer_lines bytes))
