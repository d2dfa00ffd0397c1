-- What systemd 252 loads of a timer: nothing of a file that it rejects, and only the events that it accepts.
use Rattle.std.specs.Prelude.{ℕ, ◌+◌, Bool, true, false, not, ◌&&◌, ◌||◌, ◌==◌, if◌then◌else◌, List, [], ◌∷◌, ◌++◌, length, Option, None, Some, Ok, Err, codes, is_none, is_some, unwrap_or}
use Rattle.std.specs.List.{flat_map, slice_get}
use Rattle.std.specs.Option.{option_map}
use Rattle.std.specs.Str.{byte, bytes_eq}
use Rattle.plan_loads.specs.declared.timer_lines.Switches.{Switches}
use Rattle.plan_loads.specs.Texts.{KnownLoading}
use Rattle.plan_parts.specs.declared.parts.Parts.{Parts}
use Rattle.plan_parts.specs.Files.{FileBytes, texts_of}
use Rattle.plan_parts.specs.Origin.{origin_of}
use Rattle.plan_parts.specs.Parts.{files_of}
use Rattle.plan_rules.specs.LineFaults.{TextReading}
use Rattle.plan_rules.specs.Timer.{is_reset}
use Rattle.plan_spans.specs.Booleans.{boolean_after}
use Rattle.plan_systemd.specs.FromEnd.{from_end_of}
use Rattle.plan_systemd.specs.Rejection.{rejection_of}
use Rattle.plan_triggers.specs.TimerFile.{has_bad_header, is_elapsing_span, line_note}
use Rattle.plan_texts.specs.Lines.{lines}
use Rattle.plan_texts.specs.WholeLines.{trimmed, whole_lines}
use Rattle.plan_timers.specs.declared.reports.NotPlanned.{NotPlanned}
use Rattle.plan_timers.specs.declared.reports.Unplanned.{Unplanned}
use Rattle.plan_timers.specs.declared.reports.Unplanned.TheVariants.{AlsoStartsBy, LineNotLoaded, LineUnknown, NotLoaded, StartsBy}
use Rattle.plan_units.specs.Settings.{section_name, setting_of}

-- ---- one event

abbrev pub is_event : (setting : List ℕ × List ℕ) → Bool
is_event setting = bytes_eq setting.0 (codes "OnCalendar") && not (length setting.1 == 0)

-- why systemd rejects the event of a setting
abbrev pub event_hint : (setting : List ℕ × List ℕ) → Option (List ℕ)
event_hint setting = if is_event setting then rejection_of setting.1 else None

abbrev pub event_why : (value hint : List ℕ) → List ℕ
event_why value hint = codes "systemd 252 rejects '" ++ (value ++ (codes "': " ++ hint))

-- the path of a file
abbrev pub path_at : List FileBytes → (place : ℕ) → List ℕ
path_at files place = unwrap_or (option_map (λ file. file.path) (slice_get files place)) []

-- a line of the text of a source, where it comes from
abbrev pub line_of : Parts → (number : ℕ) → (why : List ℕ) → NotPlanned
line_of parts number why =
    let origin = origin_of (texts_of (files_of parts)) number in
    record { path = path_at (files_of parts) origin.part; why = LineNotLoaded origin.line why }

abbrev pub event_report : Parts → (number : ℕ) → (value : List ℕ) → Option (List ℕ) → List NotPlanned
event_report parts number value None = []
event_report parts number value (Some hint) = line_of parts number (event_why value hint) ∷ []

-- ---- whether it elapses

-- what says that a timer elapses: an event, since the last reset; and the changes of the clock and of the zone (systemd.timer(5))
abbrev pub elapses_after : Bool → (setting : List ℕ × List ℕ) → (hint : Option (List ℕ)) → Bool
elapses_after before setting hint = if is_reset setting then false else before || (is_event setting && is_none hint)

-- the key of the first monotonic setting with a time span, since the last reset (systemd.timer(5))
abbrev pub span_after : Option (List ℕ) → (setting : List ℕ × List ℕ) → Option (List ℕ)
span_after before setting =
    if is_reset setting then None else (if is_none before && is_elapsing_span setting then Some setting.0 else before)

abbrev pub switches_after : Switches → (setting : List ℕ × List ℕ) → (hint : Option (List ℕ)) → Switches
switches_after before setting hint = record {
  elapses = elapses_after before.elapses setting hint;
  on_clock = boolean_after (codes "OnClockChange") before.on_clock setting;
  on_zone = boolean_after (codes "OnTimezoneChange") before.on_zone setting;
}

abbrev pub no_switches : Switches
no_switches = record { elapses = false; on_clock = false; on_zone = false }

abbrev pub is_triggered : Switches → (span : Option (List ℕ)) → Bool
is_triggered switches span = switches.elapses || (is_some span || (switches.on_clock || switches.on_zone))

-- ---- what else starts it

-- a timer starts by a monotonic setting, such as `OnBootSec=`, alone, or beside its events
abbrev pub span_why : (has_events : Bool) → (key : List ℕ) → Unplanned
span_why true key = AlsoStartsBy key
span_why false key = StartsBy key

abbrev pub span_report : (path : List ℕ) → (has_events : Bool) → Option (List ℕ) → List NotPlanned
span_report path has_events None = []
span_report path has_events (Some key) = record { path = path; why = span_why has_events key } ∷ []

-- a timer also starts when the clock is set, or the time zone
abbrev pub switch_report : (path : List ℕ) → (is_on : Bool) → (key : List ℕ) → List NotPlanned
switch_report path is_on key = if is_on then record { path = path; why = AlsoStartsBy key } ∷ [] else []

-- all of these; when they start a timer can't be told from its files
abbrev pub other_triggers : (path : List ℕ) → Switches → (span : Option (List ℕ)) → List NotPlanned
other_triggers path switches span =
    span_report path switches.elapses span ++ switch_report path switches.on_clock (codes "OnClockChange")
    ++ switch_report path switches.on_zone (codes "OnTimezoneChange")

-- ---- all lines

-- what is known after some lines: whether the next one is in a `[Timer]` section, whether there was one, what triggers the timer, its
-- first monotonic setting, the text that is loaded, and the lines that aren't
pub record Scan : Type 0 where
  pub inside : Bool
  pub found : Bool
  pub switches : Switches
  pub span : Option (List ℕ)
  pub text : List ℕ
  pub reports : List NotPlanned

abbrev pub no_scan : Scan
no_scan = record { inside = false; found = false; switches = no_switches; span = None; text = []; reports = [] }

-- a line that is loaded
abbrev pub with_text : Scan → List ℕ → Scan
with_text scan line = record scan { text = scan.text ++ (line ++ byte "\n" ∷ []) }

abbrev pub with_text_unless : (is_left_out : Bool) → Scan → List ℕ → Scan
with_text_unless true scan line = scan
with_text_unless false scan line = with_text scan line

abbrev pub after_setting : Parts → Scan → ℕ × List ℕ → (setting : List ℕ × List ℕ) → Scan
after_setting parts scan line setting =
    let hint = event_hint setting in
    with_text_unless (is_some hint) (record scan {
      switches = switches_after scan.switches setting hint;
      span = span_after scan.span setting;
      reports = scan.reports ++ event_report parts line.0 setting.1 hint;
    }) line.1

abbrev pub after_plain : Parts → Scan → ℕ × List ℕ → Option (List ℕ × List ℕ) → Scan
after_plain parts scan line None = with_text scan line.1
after_plain parts scan line (Some setting) = if scan.inside then after_setting parts scan line setting else with_text scan line.1

abbrev pub after_section : Scan → List ℕ → (name : List ℕ) → Scan
after_section scan line name =
    with_text (record scan { inside = bytes_eq name (codes "Timer"); found = scan.found || bytes_eq name (codes "Timer") }) line

abbrev pub after_line : Parts → Scan → ℕ × List ℕ → (section : Option (List ℕ)) → Scan
after_line parts scan line None = after_plain parts scan line (setting_of (trimmed line.1))
after_line parts scan line (Some name) = after_section scan line.1 name

abbrev pub scan_from : Parts → Scan → List (ℕ × List ℕ) → Scan
scan_from parts scan [] = scan
scan_from parts scan (line ∷ more) = scan_from parts (after_line parts scan line (section_name (trimmed line.1))) more

-- ---- a timer

abbrev pub bad_header : List ℕ
bad_header = codes "systemd 252 rejects this file: bad section header"

abbrev pub no_trigger : List ℕ
no_trigger = codes "systemd 252 rejects this timer: it has no valid trigger"

-- a timer is reported by its own file, which is the first
abbrev pub whole_report : (path : List ℕ) → (why : List ℕ) → NotPlanned
whole_report path why = record { path = path; why = NotLoaded why }

-- without a `[Timer]` section the timer has an error; without an event that is rejected the text is loaded as it is
abbrev pub loading_by : (path text : List ℕ) → Scan → KnownLoading
loading_by path text scan =
    if scan.found && not (is_triggered scan.switches scan.span)
    then record { text = None; reports = scan.reports ++ whole_report path no_trigger ∷ [] } else
    record {
      text = Some (if length scan.reports == 0 then text else scan.text);
      reports = scan.reports ++ other_triggers path scan.switches scan.span;
    }

abbrev pub trimmed_lines : List (ℕ × List ℕ) → List (ℕ × List ℕ)
trimmed_lines [] = []
trimmed_lines (line ∷ more) = (line.0, trimmed line.1) ∷ trimmed_lines more

abbrev pub lines_loading : Parts → (path text : List ℕ) → List (ℕ × List ℕ) → KnownLoading
lines_loading parts path text lines =
    if has_bad_header (trimmed_lines lines)
    then record { text = None; reports = whole_report path bad_header ∷ [] }
    else loading_by path text (scan_from parts no_scan lines)

-- ---- lines that systemd reads otherwise

-- a line of the text of a timer that systemd may read otherwise, where it comes from
abbrev pub line_otherwise : Parts → (number : ℕ) → (is_otherwise : Bool) → List NotPlanned
line_otherwise parts number is_otherwise =
    let origin = origin_of (texts_of (files_of parts)) number in
    if is_otherwise
    then record { path = path_at (files_of parts) origin.part; why = LineUnknown origin.line (codes "systemd may read it otherwise") } ∷ []
    else []

-- all lines of which it doesn't read all bytes; the first of these lines has this number
abbrev pub read_otherwise : Parts → (number : ℕ) → List (List ℕ) → List NotPlanned
read_otherwise parts number [] = []
read_otherwise parts number (line ∷ more) =
    line_otherwise parts number (is_some (line_note line)) ++ read_otherwise parts (number + 1) more

-- systemd accepts the event of a setting, but reads its days from the end of the month as other days
abbrev pub is_event_otherwise : Option (List ℕ × List ℕ) → Bool
is_event_otherwise None = false
is_event_otherwise (Some setting) = is_event setting && (is_none (rejection_of setting.1) && is_some (from_end_of setting.1))

abbrev pub event_otherwise : Parts → ℕ × List ℕ → List NotPlanned
event_otherwise parts line = line_otherwise parts line.0 (is_event_otherwise (setting_of (trimmed line.1)))

-- what is loaded, with more that isn't planned
abbrev pub with_more : KnownLoading → List NotPlanned → KnownLoading
with_more loading more = record { text = loading.text; reports = loading.reports ++ more }

-- a text that is too large or isn't UTF-8 makes no job anyway
abbrev pub timer_loading : Parts → (path text : List ℕ) → TextReading (List ℕ) → KnownLoading
timer_loading parts path text (Ok read) =
    with_more (with_more (lines_loading parts path text (whole_lines read)) (read_otherwise parts 1 (lines read)))
    (flat_map (event_otherwise parts) (whole_lines read))
timer_loading parts path text (Err fault) = record { text = Some text; reports = [] }
