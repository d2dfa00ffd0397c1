-- What systemd 252 reads otherwise in the file of a timer that agenda accepts (systemd.syntax(7), systemd.timer(5)).
use Rattle.std.specs.Prelude.{ℕ, Bool, true, not, ◌&&◌, ◌||◌, ◌==◌, nat_eq, nat_lt, if◌then◌else◌, List, [], ◌∷◌, length, codes, Option, Some, None, is_none, is_some}
use Rattle.std.specs.List.{list_any, starts_with}
use Rattle.std.specs.Str.{byte, bytes_eq}
use Rattle.std.specs.Str.Lines.{strip_carriage_return}
use Rattle.plan_texts.specs.Text.{begins_with}
use Rattle.plan_spans.specs.Booleans.{boolean}
use Rattle.plan_spans.specs.Spans.{time_span}
use Rattle.plan_rules.specs.Timer.{monotonic_keys, section_name}
use Rattle.plan_rules.specs.TimerOptions.{Setting, persistent_key}
use Rattle.plan_units.specs.Validity.{is_valid_name}

-- ---- lines

-- a byte that ends a line for systemd, besides the newline (read_line of systemd 252)
abbrev pub is_line_end : ℕ → Bool
is_line_end b = (b == 13) || (b == 0)

-- systemd ends a line of a file earlier than agenda, for which a carriage return before the newline isn't part of it
abbrev pub is_cut : (line : List ℕ) → Bool
is_cut line = list_any is_line_end (strip_carriage_return line)

-- a byte that the name of a section can't have: control characters, quotes and backslashes (string_is_safe of systemd 252)
abbrev pub is_unsafe : ℕ → Bool
is_unsafe b =
    nat_lt b 32 || ((b == 127) || ((b == byte "\"") || ((b == byte "'") || (b == byte "\\"))))

-- what is between `[` and `]` can't be the name of a section, or there is no `]`
abbrev pub is_bad_name : Option (List ℕ) → Bool
is_bad_name None = true
is_bad_name (Some name) = list_any is_unsafe name

-- systemd rejects the file for a whole line without blanks at its ends, which begins with `[` but is no valid header of a section
-- (parse_line of systemd 252)
abbrev pub is_bad_header : (line : List ℕ) → Bool
is_bad_header line = begins_with (λ b. b == byte "[") line && is_bad_name (section_name line)

-- systemd rejects the file for one of its whole lines, each with its number
abbrev pub has_bad_header : List (ℕ × List ℕ) → Bool
has_bad_header lines = list_any (λ line. is_bad_header line.1) lines

-- the bytes of a byte order mark
abbrev pub byte_order_mark : List ℕ
byte_order_mark = 239 ∷ 187 ∷ 191 ∷ []

-- what systemd does to a line that agenda doesn't do (read_line and config_parse of systemd 252)
abbrev pub line_note : List ℕ → Option (List ℕ)
line_note line =
    if is_cut line then Some (codes "ends the line at a carriage return or NUL byte")
    else (if starts_with nat_eq line byte_order_mark then Some (codes "drops the byte order mark before this line") else None)

-- ---- settings

-- systemd ignores the value of `Unit=`: it isn't the name of a unit, with a type, or it is the timer's own name; a value with a
-- specifier isn't judged (config_parse_trigger_unit of systemd 252)
abbrev pub is_ignored_unit : (timer value : List ℕ) → Bool
is_ignored_unit timer value =
    not (list_any (λ b. b == byte "%") value) && (not (is_valid_name value) || bytes_eq value timer)

-- a setting names a unit that can't be one (systemd.timer(5), `Unit=`)
abbrev pub is_bad_unit : Setting → Bool
is_bad_unit setting =
    bytes_eq setting.0 (codes "Unit") && (not (length setting.1 == 0) && is_ignored_unit [] setting.1)

-- the timer elapses by a monotonic setting, such as `OnBootSec=`, whose value is a time span (config_parse_timer of systemd 252)
abbrev pub is_elapsing_span : Setting → Bool
is_elapsing_span setting = list_any (bytes_eq setting.0) monotonic_keys && is_some (time_span setting.1)

-- a setting has no boolean where the timer needs one (systemd.timer(5), `Persistent=`; config_parse_bool of systemd 252)
abbrev pub is_bad_boolean : Setting → Bool
is_bad_boolean setting = bytes_eq setting.0 persistent_key && is_none (boolean setting.1)
