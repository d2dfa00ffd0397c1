-- What the lines of a timer file say (systemd.timer(5), systemd.syntax(7)), and what the job of the file is.
use Rattle.std.specs.Prelude.{ℕ, ◌-◌, Bool, false, not, ◌&&◌, ◌||◌, ◌==◌, nat_le, nat_lt, nat_eq, if◌then◌else◌, List, [], ◌∷◌, ◌++◌, length, take, codes, Option, Some, None, Ok, Err, unwrap_or}
use Rattle.std.specs.Char.{is_ascii_alphabetic, is_ascii_digit}
use Rattle.std.specs.List.{cons_option, list_any, list_all, slice_index, slice_range, ends_with, position_or_len, before_first, after_first}
use Rattle.std.specs.Option.{option_map_or}
use Rattle.std.specs.Str.{byte, bytes_eq}
use Rattle.plan_match.specs.declared.event.Calendar.{Calendar}
use Rattle.plan_rules.specs.declared.line_fault.LineCause.TheVariants.{NoTimerSection}
use Rattle.plan_match.specs.declared.rule.Rule.TheVariants.{Events}
use Rattle.plan_rules.specs.declared.timer_lines.LineEffect.{LineEffect}
use Rattle.plan_rules.specs.declared.timer_lines.LineEffect.TheVariants as does
use Rattle.plan_rules.specs.declared.timer_lines.Sections.{Sections}
use Rattle.plan_rules.specs.Limits.{least_name, most_name}
use Rattle.plan_texts.specs.Text.{begins_with}
use Rattle.plan_rules.specs.LineFaults.{TextReading, on_line}
use Rattle.plan_rules.specs.Job.{JobParts}
use Rattle.plan_rules.specs.TimerOptions.{Setting, delay_seconds}
use Rattle.plan_rules.specs.declared.timer_options.TimerOptions.{TimerOptions}
use Rattle.plan_texts.specs.WholeLines.{trimmed}

-- ---- the name

-- the characters of a timer's name: letters, digits and `:`, `-`, `_`, `.`, `\` (agenda)
abbrev pub is_name_byte : ℕ → Bool
is_name_byte b =
    is_ascii_alphabetic b
    || (is_ascii_digit b
    || ((b == byte ":") || ((b == byte "-") || ((b == byte "_") || ((b == byte ".") || (b == byte "\\"))))))

-- the name of a timer's file has 7 to 255 bytes and ends in `.timer` (agenda)
unfoldable pub is_timer_file : List ℕ → Bool
is_timer_file name =
    nat_le least_name (length name)
    && (nat_le (length name) most_name && (ends_with nat_eq name (codes ".timer") && list_all is_name_byte name))

-- the name of a user who has timers has at least one of these characters (agenda)
abbrev pub is_user_with_timers : List ℕ → Bool
is_user_with_timers user = not (length user == 0) && list_all is_name_byte user

abbrev pub is_slash : ℕ → Bool
is_slash b = b == byte "/"

-- the user and the file of a user's timer, before and after the first `/` of its name (agenda)
unfoldable pub user_and_file : List ℕ → Option (List ℕ × List ℕ)
user_and_file name =
    if nat_lt (position_or_len is_slash name) (length name) then Some (before_first is_slash name, after_first is_slash name) else None

abbrev pub user_by : Option (List ℕ × List ℕ) → Option (List ℕ)
user_by None = None
user_by (Some parts) = Some parts.0

-- the user whose timer it is, if it is a user's
abbrev pub timer_user : List ℕ → Option (List ℕ)
timer_user name = user_by (user_and_file name)

abbrev pub file_by : List ℕ → Option (List ℕ × List ℕ) → List ℕ
file_by name None = name
file_by name (Some parts) = parts.1

-- the name of a timer's file
abbrev pub timer_file : List ℕ → List ℕ
timer_file name = file_by name (user_and_file name)

abbrev pub is_name_by : List ℕ → Option (List ℕ × List ℕ) → Bool
is_name_by name None = is_timer_file name
is_name_by name (Some parts) = is_user_with_timers parts.0 && is_timer_file parts.1

-- a timer's name is that of its file, or of a user and of its file (agenda)
unfoldable pub is_timer_name : List ℕ → Bool
is_timer_name name = is_name_by name (user_and_file name)

-- the service with the name of a timer's file: its last `.timer` is replaced by `.service` (systemd.timer(5), `Unit=`)
abbrev pub service_name : List ℕ → List ℕ
service_name name = take (length name - 6) name ++ codes ".service"

-- ---- a whole line, without blanks at its ends

-- the name between `[` and `]` of the section that a line begins (systemd.syntax(7))
unfoldable pub section_name : List ℕ → Option (List ℕ)
section_name text =
    if begins_with (λ b. b == byte "[") text && (slice_index text (length text - 1) == byte "]")
    then Some (slice_range text 1 (length text - 1))
    else None

-- whether a section is `[Timer]`; names of sections are compared exactly (systemd.syntax(7))
abbrev pub is_timer : List ℕ → Bool
is_timer section = bytes_eq section (codes "Timer")

-- the key and the value of a setting, before and after the first `=`, without blanks at their ends (systemd.syntax(7))
unfoldable pub setting_of : List ℕ → Option (List ℕ × List ℕ)
setting_of text =
    let is_equals : ℕ → Bool = λ b. b == byte "=" in
    if nat_lt (position_or_len is_equals text) (length text)
    then Some (trimmed (before_first is_equals text), trimmed (after_first is_equals text))
    else None

-- ---- what a setting of the `[Timer]` section does

-- the keys of monotonic timers (systemd.timer(5))
abbrev pub monotonic_keys : List (List ℕ)
monotonic_keys =
    codes "OnActiveSec" ∷ codes "OnBootSec" ∷ codes "OnStartupSec" ∷ codes "OnUnitActiveSec"
    ∷ codes "OnUnitInactiveSec" ∷ []

-- a setting empties the list of the times at which the timer elapses: a time setting without a value (systemd.timer(5),
-- `OnCalendar=`); keys are compared exactly (systemd.syntax(7))
abbrev pub is_reset : Setting → Bool
is_reset setting =
    (bytes_eq setting.0 (codes "OnCalendar") || list_any (bytes_eq setting.0) monotonic_keys) && (length setting.1 == 0)

-- what a line does: it empties the list of events, adds an event to it, names the unit that is started, or does nothing
-- (systemd.timer(5))
pub data Effect : Type 0 where
  Reset : Effect
  Event : (text : List ℕ) → Effect
  Starts : (unit : List ℕ) → Effect
  Nothing : Effect

-- what a line does, as the code says it
abbrev pub effect_shown : LineEffect → Effect
effect_shown does.Reset = Reset
effect_shown (does.Event text) = Event text.now
effect_shown (does.Starts unit) = Starts unit.now
effect_shown does.Nothing = Nothing

-- what a setting does; an empty unit and the times of monotonic timers are ignored (agenda)
unfoldable pub effect_of : Setting → Effect
effect_of setting =
    if is_reset setting then Reset
    else (if length setting.1 == 0 then Nothing
    else (if bytes_eq setting.0 (codes "OnCalendar") then Event setting.1
    else (if bytes_eq setting.0 (codes "Unit") then Starts setting.1 else Nothing)))

-- ---- what the lines do

-- whether the lines after a line are in a `[Timer]` section; several such sections count as one (systemd.syntax(7))
abbrev pub inside_after : Bool → Option (List ℕ) → Bool
inside_after inside section = option_map_or is_timer section inside

-- the sections after a line, by the section that it begins
abbrev pub sections_after : Sections → Option (List ℕ) → Sections
sections_after sections section = record {
  inside = inside_after sections.inside section;
  found = sections.found || inside_after false section;
}

-- what a line does, by its section or its setting: only settings in a `[Timer]` section have an effect (systemd.syntax(7))
abbrev pub line_effect : Bool → Option (List ℕ) → Option (List ℕ × List ℕ) → Effect
line_effect inside (Some section) setting = Nothing
line_effect inside None None = Nothing
line_effect inside None (Some setting) = if inside then effect_of setting else Nothing

-- the setting of a line, by the section that it begins and by what it says; only those in a `[Timer]` section count
-- (systemd.syntax(7))
abbrev pub setting_in : (inside : Bool) → (section : Option (List ℕ)) → (setting : Option Setting) → Option Setting
setting_in inside (Some section) setting = None
setting_in inside None setting = if inside then setting else None

-- the key and the value of a line in a `[Timer]` section; a line that begins a section has none (systemd.syntax(7))
abbrev pub timer_setting : Bool → List ℕ → Option Setting
timer_setting inside text = setting_in inside (section_name text) (setting_of text)

-- the settings in the `[Timer]` sections of lines, in order; the first line is in such a section if `inside` (systemd.syntax(7))
abbrev pub settings_from : (inside : Bool) → List (ℕ × List ℕ) → List Setting
settings_from inside [] = []
settings_from inside (line ∷ more) =
    cons_option (timer_setting inside line.1) (settings_from (inside_after inside (section_name line.1)) more)

-- what each line does, in order, with its number
abbrev pub effects_from : Bool → List (ℕ × List ℕ) → List (ℕ × Effect)
effects_from inside [] = []
effects_from inside (line ∷ more) =
    (line.0, line_effect inside (section_name (line.1)) (setting_of (line.1)))
    ∷ effects_from (inside_after inside (section_name (line.1))) more

-- whether one of the lines begins a `[Timer]` section
abbrev pub has_timer : List (ℕ × List ℕ) → Bool
has_timer lines = list_any (λ line. inside_after false (section_name (line.1))) lines

-- ---- the job

-- the job of a timer, from its name, the unit that it names, its events, and its options (systemd.timer(5))
abbrev pub timer_job : List ℕ → Option (List ℕ) → List Calendar → TimerOptions → JobParts
timer_job name unit events options = record {
  name = name;
  user = timer_user name;
  command = unwrap_or unit (service_name (timer_file name));
  rule = Events events;
  delay = delay_seconds options;
  persistent = options.persistent;
}

-- the same; a `[Timer]` section is required (systemd.timer(5))
abbrev pub job_with : Bool → List ℕ → Option (List ℕ) → List Calendar → TimerOptions → TextReading JobParts
job_with found name unit events options =
    if found
    then Ok (timer_job name unit events options)
    else on_line 0 (Err NoTimerSection)
