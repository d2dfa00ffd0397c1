-- The crontabs that Debian's cron ignores whole, for a line or for their end (load_user of cron 3.0pl1).
use Rattle.std.specs.Prelude.{ℕ, ◌+◌, ◌-◌, Bool, true, false, not, ◌&&◌, ◌||◌, ◌==◌, if◌then◌else◌, List, [], ◌∷◌, ◌++◌, length, Option, None, Some, Ok, Err, codes, is_ok, is_some}
use Rattle.std.specs.Char.{is_ascii_alphabetic, is_ascii_digit}
use Rattle.std.specs.Fmt.{decimal}
use Rattle.std.specs.List.{before_first, slice_get}
use Rattle.std.specs.Option.{option_map, option_map_or, option_or}
use Rattle.std.specs.Str.{byte, is_utf8}
use Rattle.plan_cron.specs.Commands.{begins_with_star, is_too_long}
use Rattle.plan_cron.specs.Lines.{first_beyond, is_unended}
use Rattle.plan_cron.specs.Settings.{setting_fault}
use Rattle.plan_cron.specs.Words.{word_at}
use Rattle.plan_grammar.specs.Cron.{cron_reading}
use Rattle.plan_grammar.specs.declared.fault.RuleCause.{RuleCause}
use Rattle.plan_grammar.specs.declared.fault.RuleCause.TheVariants as rule
use Rattle.plan_loads.specs.Texts.{KnownLoading}
use Rattle.plan_rules.specs.declared.crontabs.Kind.{Kind}
use Rattle.plan_rules.specs.declared.crontabs.Kind.TheVariants.{User, System}
use Rattle.plan_rules.specs.declared.line_fault.LineCause.{LineCause}
use Rattle.plan_rules.specs.declared.line_fault.LineCause.TheVariants.{BadSetting, NoCommand, Rule}
use Rattle.plan_rules.specs.Crontab.{line_reading}
use Rattle.plan_rules.specs.Job.{JobParts}
use Rattle.plan_rules.specs.LineFaults.{LineReading, TextReading}
use Rattle.plan_sets.specs.declared.SetFault.{SetFault}
use Rattle.plan_sets.specs.declared.SetFault.TheVariants as set
use Rattle.plan_texts.specs.Lines.{lines}
use Rattle.plan_texts.specs.Text.{begins_with, is_blank}
use Rattle.plan_timers.specs.declared.reports.Unplanned.{Unplanned}
use Rattle.plan_timers.specs.declared.reports.Unplanned.TheVariants.{LineNotLoaded, NotLoaded}

-- ---- a line that agenda rejects

-- a byte that can't be in a list of names and numbers
abbrev pub is_odd : ℕ → Bool
is_odd b =
    not (is_ascii_alphabetic b || (is_ascii_digit b || ((b == byte ",") || ((b == byte "/") || (b == byte "-")))))

-- the rule of which only the month, field 4, or the day of the week isn't `*`
abbrev pub rule_with : (part : ℕ) → (field : List ℕ) → List ℕ
rule_with part field = if part == 4 then codes "* * * " ++ (field ++ codes " *") else codes "* * * * " ++ field

-- a text is a valid month or day of the week
abbrev pub is_rule_with : (part : ℕ) → (field : List ℕ) → Bool
is_rule_with part field = if is_utf8 field then is_ok (cron_reading (rule_with part field)) else false

-- cron ignores the text after a name, up to the next blank, as in `jan#2` (get_range of cron 3.0pl1): the names before it are valid
abbrev pub is_cut_name : (line : List ℕ) → (part : ℕ) → Bool
is_cut_name line part = ((part == 4) || (part == 5)) && is_rule_with part (before_first is_odd (word_at line part))

-- cron rejects a value or a step like agenda, except a range that is backwards
abbrev pub set_decides : SetFault → Bool
set_decides set.OutOfRange = true
set_decides set.ZeroStep = true
set_decides other = false

-- cron rejects a rule like agenda. A bad number may be one that cron cuts
abbrev pub rule_decides : (line : List ℕ) → (part : ℕ) → RuleCause → Bool
rule_decides line part rule.WrongParts = true
rule_decides line part rule.UnknownWord = true
rule_decides line part rule.BadName = not (is_cut_name line part)
rule_decides line part (rule.Values fault) = set_decides fault
rule_decides line part other = false

-- the place of the user's word: after a word that begins with `@`, or after five fields (crontab(5))
abbrev pub user_place : (line : List ℕ) → ℕ
user_place line = if begins_with (λ b. b == byte "@") (word_at line 1) then 2 else 6

abbrev pub ends_blank : (line : List ℕ) → Bool
ends_blank line = option_map_or is_blank (slice_get line (length line - 1)) false

-- cron reads the user up to the next blank, over the end of the line: without a blank after it there is no such user (load_entry of
-- cron 3.0pl1)
abbrev pub has_whole_user : (line : List ℕ) → Bool
has_whole_user line = not (length (word_at line (user_place line)) == 0) && ends_blank line

-- cron accepts a line without a command in a user's crontab, and in the system's after a whole user
abbrev pub no_command_decides : Kind → (line : List ℕ) → Bool
no_command_decides User line = false
no_command_decides System line = not (has_whole_user line)

abbrev pub cause_decides : Kind → (line : List ℕ) → LineCause → Bool
cause_decides kind line BadSetting = true
cause_decides kind line (Rule fault) = rule_decides line fault.part fault.cause
cause_decides kind line NoCommand = no_command_decides kind line
cause_decides kind line other = false

-- cron rejects the line too. A line that it reads as a setting makes no job
abbrev pub is_decisive : Kind → (line : List ℕ) → LineCause → Bool
is_decisive kind line cause = is_some (setting_fault line) && cause_decides kind line cause

-- ---- why

abbrev pub ignored_why : (why : List ℕ) → List ℕ
ignored_why why = codes "cron ignores this file: " ++ why

abbrev pub because_of : (number : ℕ) → List ℕ
because_of number = codes "cron ignores this file because of line " ++ decimal number

abbrev pub on_line : (number : ℕ) → Option (List ℕ) → Option Unplanned
on_line number why = option_map (λ text. LineNotLoaded number (ignored_why text)) why

-- ---- one line

-- the command of a job
abbrev pub job_why : Kind → (line command : List ℕ) → Option (List ℕ)
job_why kind line command =
    if begins_with_star kind command then Some (codes "the command begins with *") else
    if is_too_long kind line then Some (codes "command over 998 bytes") else
    None

abbrev pub rejected_why : Kind → (number : ℕ) → (line : List ℕ) → LineCause → Option Unplanned
rejected_why kind number line cause = if is_decisive kind line cause then Some (NotLoaded (because_of number)) else None

abbrev pub line_why : Kind → (number : ℕ) → (line : List ℕ) → LineReading (Option JobParts) → Option Unplanned
line_why kind number line (Ok None) = on_line number (setting_fault line)
line_why kind number line (Ok (Some job)) = on_line number (job_why kind line job.command)
line_why kind number line (Err cause) = rejected_why kind number line cause

-- ---- a crontab

-- the first of some lines for which cron ignores the file; the first line has this number
abbrev pub first_why : Kind → (number : ℕ) → List (List ℕ) → Option Unplanned
first_why kind number [] = None
first_why kind number (line ∷ more) =
    option_or (line_why kind number line (line_reading [] kind number line)) (first_why kind (number + 1) more)

abbrev pub beyond_why : List (List ℕ) → Option Unplanned
beyond_why ls = option_map (λ number. LineNotLoaded number (ignored_why (codes "more than 10003 lines"))) (first_beyond ls)

abbrev pub end_why : (text : List ℕ) → Option Unplanned
end_why text = if is_unended text then Some (NotLoaded (ignored_why (codes "no newline at its end"))) else None

-- why cron ignores a crontab with this text, the first of these
abbrev pub text_why : Kind → (text : List ℕ) → Option Unplanned
text_why kind text = option_or (first_why kind 1 (lines text)) (option_or (beyond_why (lines text)) (end_why text))

-- ---- what is loaded

abbrev pub loaded_unless : (path text : List ℕ) → Option Unplanned → KnownLoading
loaded_unless path text None = record { text = Some text; reports = [] }
loaded_unless path text (Some why) = record { text = None; reports = record { path = path; why = why } ∷ [] }

-- a text that is too large or isn't UTF-8 makes no jobs anyway
abbrev pub cron_loading : Kind → (path text : List ℕ) → TextReading (List ℕ) → KnownLoading
cron_loading kind path text (Ok read) = loaded_unless path text (text_why kind read)
cron_loading kind path text (Err fault) = record { text = Some text; reports = [] }
