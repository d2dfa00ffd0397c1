-- The kinds of sources: one table with the option, the label and the names of each kind, in the order in which a plan reads them
-- (agenda).
use Rattle.std.specs.Prelude.{ℕ, Bool, false, not, ◌&&◌, ◌||◌, ◌==◌, if◌then◌else◌, List, [], ◌∷◌, length, codes, Option, None, Some, is_none}
use Rattle.std.specs.Char.{is_ascii_alphabetic, is_ascii_digit}
use Rattle.std.specs.List.{list_all}
use Rattle.std.specs.Str.{byte}
use Rattle.plan_rules.specs.declared.line_fault.LineCause.{LineCause}
use Rattle.plan_rules.specs.declared.line_fault.LineCause.TheVariants.{BadTabName, BadTimerName}
use Rattle.plan_rules.specs.declared.source_kind.SourceKind.{SourceKind}
use Rattle.plan_rules.specs.declared.source_kind.SourceKind.TheVariants.{Crontab, System, CronD, Spool, Timer}
use Rattle.plan_rules.specs.Timer.{is_timer_name}

-- ---- which kinds there are

-- all kinds, in the order in which a plan reads their sources
abbrev pub kinds : List SourceKind
kinds = Crontab ∷ System ∷ CronD ∷ Spool ∷ Timer ∷ []

-- ---- what they are called

-- the option, or the argument, that gives the path of a source
abbrev pub option_of : SourceKind → List ℕ
option_of Crontab = codes "crontab"
option_of System = codes "system-crontab"
option_of CronD = codes "cron-d"
option_of Spool = codes "spool"
option_of Timer = codes "timer"

-- the label in error lines, for a kind of which a plan has at most one source. Sources of the other kinds are
-- identified by their names
abbrev pub label_of : SourceKind → Option (List ℕ)
label_of Crontab = Some (codes "crontab")
label_of System = Some (codes "system crontab")
label_of CronD = None
label_of Spool = None
label_of Timer = None

-- whether a plan may have more than one source of this kind
abbrev pub is_many : SourceKind → Bool
is_many kind = is_none (label_of kind)

-- ---- the names of their files

-- the characters of a name in /etc/cron.d: letters, digits, `_` and `-`; cron ignores other files there (cron(8) of Debian)
abbrev pub is_package_byte : ℕ → Bool
is_package_byte b = is_ascii_alphabetic b || (is_ascii_digit b || ((b == byte "_") || (b == byte "-")))

-- the name of a package's crontab, which has at least one character (agenda)
unfoldable pub is_package_name : (name : List ℕ) → Bool
is_package_name name = not (length name == 0) && list_all is_package_byte name

-- the characters after the first of a user's name, which may also have `.` there (agenda)
abbrev pub is_user_byte : ℕ → Bool
is_user_byte b = is_package_byte b || (b == byte ".")

-- the name of a user's crontab, which has at least one character (agenda)
unfoldable pub is_user_name : (name : List ℕ) → Bool
is_user_name [] = false
is_user_name (first ∷ rest) = is_package_byte first && list_all is_user_byte rest

-- what is wrong with the name of a file; a source that has a label may have any name (agenda)
abbrev pub name_cause : SourceKind → (name : List ℕ) → Option LineCause
name_cause Crontab name = None
name_cause System name = None
name_cause CronD name = if is_package_name name then None else Some BadTabName
name_cause Spool name = if is_user_name name then None else Some BadTabName
name_cause Timer name = if is_timer_name name then None else Some BadTimerName
