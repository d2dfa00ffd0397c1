-- The settings of a crontab that say how its commands are read and where programs are (crontab(5), environment settings).
use Rattle.std.specs.Prelude.{ℕ, ◌-◌, Bool, true, false, not, ◌&&◌, ◌||◌, ◌==◌, nat_le, if◌then◌else◌, List, [], ◌∷◌, length, codes, Option, None, Some}
use Rattle.std.specs.List.{list_any, slice_index, slice_range}
use Rattle.std.specs.Str.{byte, bytes_eq}
use Rattle.plan_rules.specs.Timer.{setting_of}

-- ---- one setting

-- the names of some settings, which may have quotes around them (crontab(5))
abbrev pub path_names : List (List ℕ)
path_names = codes "PATH" ∷ codes "\"PATH\"" ∷ codes "'PATH'" ∷ []

abbrev pub shell_names : List (List ℕ)
shell_names = codes "SHELL" ∷ codes "\"SHELL\"" ∷ codes "'SHELL'" ∷ []

abbrev pub start_file_names : List (List ℕ)
start_file_names = codes "BASH_ENV" ∷ codes "\"BASH_ENV\"" ∷ codes "'BASH_ENV'" ∷ []

-- a value has these quotes around it
abbrev pub is_quoted : (quote : ℕ) → (value : List ℕ) → Bool
is_quoted quote value =
    nat_le 2 (length value) && ((slice_index value 0 == quote) && (slice_index value (length value - 1) == quote))

-- a value without the quotes around it, which match (crontab(5))
abbrev pub unquoted : (value : List ℕ) → List ℕ
unquoted value =
    if is_quoted (byte "\"") value || is_quoted (byte "'") value then slice_range value 1 (length value - 1) else value

-- the shells whose commands are read as sh(1) says (agenda)
abbrev pub read_shells : List (List ℕ)
read_shells =
    codes "/bin/sh" ∷ codes "/bin/dash" ∷ codes "/bin/bash"
    ∷ codes "/usr/bin/sh" ∷ codes "/usr/bin/dash" ∷ codes "/usr/bin/bash" ∷ []

abbrev pub bash_shells : List (List ℕ)
bash_shells = codes "/bin/bash" ∷ codes "/usr/bin/bash" ∷ []

-- ---- the settings in force

-- those in force at a line: whether root owns the crontab, the last PATH above the line, whether the last SHELL above it is one that
-- is read, and is bash, and whether a BASH_ENV above it names a file that bash reads first
pub record Settings : Type 0 where
  pub is_roots : Bool
  pub path : List ℕ
  pub is_shell_read : Bool
  pub is_bash : Bool
  pub has_start_file : Bool

-- what a setting makes of those in force
abbrev pub with_setting : Settings → (name value : List ℕ) → Settings
with_setting settings name value =
    if list_any (bytes_eq name) path_names then record settings { path = value } else
    if list_any (bytes_eq name) shell_names
    then record settings { is_shell_read = list_any (bytes_eq value) read_shells; is_bash = list_any (bytes_eq value) bash_shells } else
    if list_any (bytes_eq name) start_file_names then record settings { has_start_file = true } else settings

-- those below a line that is this setting, or none
abbrev pub settings_with : Settings → Option (List ℕ × List ℕ) → Settings
settings_with settings None = settings
settings_with settings (Some setting) = with_setting settings setting.0 (unquoted setting.1)

-- the settings in force at the first line: PATH is that of cron(8), and the shell is /bin/sh (crontab(5))
abbrev pub first_settings : (owner : List ℕ) → Settings
first_settings owner = record {
  is_roots = bytes_eq owner (codes "root");
  path = codes "/usr/bin:/bin";
  is_shell_read = true;
  is_bash = false;
  has_start_file = false;
}

-- the settings in force below a line
abbrev pub settings_after : Settings → (line : List ℕ) → Settings
settings_after settings line = settings_with settings (setting_of line)

-- commands are read, if nothing but them is: what a file of BASH_ENV says isn't (bash(1), agenda)
abbrev pub is_read : Settings → Bool
is_read settings = settings.is_shell_read && not (settings.is_bash && settings.has_start_file)
