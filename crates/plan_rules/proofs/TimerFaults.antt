-- Which errors a timer file has, and what is known of its name and its lines: for `timer` and `service_name`.
-- `own_lines` follows the definition: after each step all errors are of a line.
use Rattle.std.proofs.Common.{◌≡◌, ℕ, ◌+◌, ◌-◌, ◌≤◌, Bool, true, false, cond, nat_lt, nat_le, nat_eq, List, [], ◌∷◌, length, drop, get_or, map, codes, Option, None, Some, Ok, Err, IfErr, string_bytes, refl, ap, sym, ◌∙◌, arith}
use Rattle.std.proofs.lemmas.Bool.{and_parts, leb-true}
use Rattle.std.proofs.lemmas.List.{get_or-drop}
use Rattle.std.proofs.lemmas.Str.{IsCharBoundary-before_ascii}
use Rattle.std.specs.Cmp.Lexicographic.{bytes_decides}
use Rattle.std.specs.List.{cons_option, ends_with}
use Rattle.std.specs.Str.{IsCharBoundary}
use Rattle.plan_match.specs.declared.event.Calendar.{Calendar}
use Rattle.plan_rules.specs.declared.entry.Entry.{Entry}
use Rattle.plan_rules.specs.declared.line_fault.LineCause.TheVariants.{NoTimerSection, TooManyLines}
use Rattle.plan_rules.specs.Limits.{most_events}
use Rattle.plan_texts.specs.declared.whole_lines.WholeLine.{WholeLine}
use Rattle.plan_grammar.specs.Event.{event_reading}
use Rattle.plan_grammar.specs.EventZones.{Zones}
use Rattle.plan_rules.specs.LineFaults.{LineReading, TextReading, in_line, want_of_memory}
use Rattle.plan_rules.specs.Entries.{entry_at, faults_of, unless_faulty}
use Rattle.plan_rules.specs.FileText.{text_reading}
use Rattle.plan_rules.specs.Job.{JobParts}
use Rattle.plan_texts.specs.WholeLines.{whole_lines, whole_text, trimmed}
use Rattle.plan_rules.specs.Timer.{Effect, Reset, Event, Starts, Nothing, file_by, is_name_by, is_timer_file, is_timer_name, is_user_with_timers, timer_file, user_and_file, effects_from, has_timer, job_with, settings_from}
use Rattle.plan_rules.specs.TimerOptions.{options_of}
use Rattle.plan_rules.specs.declared.timer_options.TimerOptions.{TimerOptions}
use Rattle.plan_rules.specs.TimerEntries.{EventCount, after_event_text, count_after, Has, Idle, entries_from, entry_of, lines_draft, no_events, timer_of_lines, timer_reading}
use Rattle.plan_texts.specs.EachLaws.{err_steps}
use Rattle.plan_texts.specs.Steps.{GivesUnless}
use Rattle.plan_rules.proofs.CrontabFaults.{IsLineCause, IsOwnFault, answered, rule_in, on, rejected_first}

-- ---- the name

file_valid_by : (name : List ℕ) → (parts : Option (List ℕ × List ℕ)) → is_name_by name parts ≡ true → is_timer_file (file_by name parts) ≡ true
file_valid_by name None is = is
file_valid_by name (Some parts) is = (and_parts (is_user_with_timers parts.0) (is_timer_file parts.1) is).1

-- the file of a timer with a valid name has a valid name
pub file_valid : (name : List ℕ) → is_timer_name name ≡ true → is_timer_file (timer_file name) ≡ true
unfolding is_timer_name
file_valid name is = file_valid_by name (user_and_file name) is

-- the name of a timer's file is long enough to be cut before `.timer`
pub name_long : (name : List ℕ) → is_timer_file name ≡ true → 7 ≤ length name
unfolding is_timer_file
name_long name is = leb-true 7 (length name) (and_parts (nat_le 7 (length name)) _ is).0

-- the name of a timer's file may be cut there
pub boundary_of_name : (name : List ℕ) → is_timer_file name ≡ true → IsCharBoundary name (length name - 6)
unfolding is_timer_file
boundary_of_name name is =
    let long : 7 ≤ length name = name_long name is in
    let later = (and_parts (nat_le 7 (length name)) _ is).1 in
    let ends : ends_with nat_eq name (codes ".timer") ≡ true = (and_parts (ends_with nat_eq name (codes ".timer")) _
    (and_parts (nat_le (length name) 255) _ later).1).0 in
    let tail : codes ".timer" ≡ drop (length name - 6) name = (bytes_decides (codes ".timer") (drop (length name - 6) name)).0 ends in
    let shift : length name - 6 + 0 ≡ length name - 6 = omega arith in
    let dot : get_or name (length name - 6) 0 ≡ 46 =
    ap (λ n. get_or name n 0) (sym shift) ∙ sym (get_or-drop (length name - 6) name 0 0) ∙ sym (ap (λ t. get_or t 0 0) tail) in
    IsCharBoundary-before_ascii name (length name - 6) (omega arith) (omega arith)

-- ---- the lines

event_fault :
    {A : Type 0} (room told : Bool) (number : ℕ) (read : LineReading Calendar) (more : List (Entry Calendar)) (x : A) →
    IfErr read IsLineCause → IfErr (unless_faulty (faults_of more) x) IsOwnFault →
    IfErr (unless_faulty (faults_of (cons_option (entry_of (cond room (Has (entry_at number read))
    (cond told Idle (Has (entry_at number (Err TooManyLines)))))) more)) x) IsOwnFault
event_fault true told number read more x own later = rejected_first number read (faults_of more) x own later
event_fault false true number read more x own later = later
event_fault false false number read more x own later = rejected_first {A = Calendar} number (Err TooManyLines) (faults_of more) x tt later

entries_fault :
    {A : Type 0} (zones : Zones) (count : EventCount) (effects : List (ℕ × Effect)) (x : A) →
    IfErr (unless_faulty (faults_of (entries_from zones count effects)) x) IsOwnFault
entries_fault zones count [] x = tt
entries_fault zones count ((number, Event text) ∷ more) x =
    event_fault (nat_lt count.held most_events) count.told number (in_line (event_reading zones text))
    (entries_from zones (after_event_text count) more) x (rule_in (event_reading zones text))
    (entries_fault zones (after_event_text count) more x)
entries_fault zones count ((number, Reset) ∷ more) x = entries_fault zones (count_after count Reset) more x
entries_fault zones count ((number, Starts unit) ∷ more) x = entries_fault zones count more x
entries_fault zones count ((number, Nothing) ∷ more) x = entries_fault zones count more x

job_fault :
    (found : Bool) (name : List ℕ) (unit : Option (List ℕ)) (events : List Calendar) (options : TimerOptions) →
    IfErr (job_with found name unit events options) IsOwnFault
job_fault true name unit events options = tt
job_fault false name unit events options = on {A = JobParts} 0 (Err NoTimerSection) tt

-- every error of a timer's lines is of a line
pub own_lines :
    (answer : TextReading JobParts) (zones : Zones) (name : List ℕ) (lines : List (ℕ × List ℕ)) →
    GivesUnless want_of_memory (λ job. job) answer (timer_of_lines zones name lines) → IfErr answer IsOwnFault
own_lines answer zones name lines gives =
    answered (λ job. job) answer (timer_of_lines zones name lines) gives
    (err_steps IsOwnFault (unless_faulty (faults_of (entries_from zones no_events (effects_from false lines))) (lines_draft zones lines)) _
    (entries_fault zones no_events (effects_from false lines) (lines_draft zones lines))
    (λ draft. job_fault (has_timer lines) name draft.unit draft.events (options_of (settings_from false lines))))

-- ---- the bytes

-- the meaning of a file whose name and text are valid
pub timer_of_text :
    (zones : Zones) (name bytes text : List ℕ) → is_timer_name name ≡ true → Ok text ≡ text_reading bytes →
    timer_reading zones name bytes ≡ timer_of_lines zones name (map (λ line. (line.0, trimmed line.1)) (whole_lines text))
timer_of_text zones name bytes text named read = rw (named, sym read) refl

-- the whole lines as the code keeps them, without blanks at their ends
pub trimmed_lines :
    (lines : List WholeLine) →
    map {B = ℕ × List ℕ} (λ line. (line.number, trimmed (string_bytes line.text))) lines ≡
    map {B = ℕ × List ℕ} (λ line. (line.0, trimmed line.1)) (map whole_text lines)
trimmed_lines [] = refl
trimmed_lines (line ∷ more) = ap (λ rest. (line.number, trimmed (string_bytes line.text)) ∷ rest) (trimmed_lines more)
