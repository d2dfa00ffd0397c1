-- How cron reads and changes the command of a job (load_entry and child_process of cron 3.0pl1; crontab(5)).
use Rattle.std.specs.Prelude.{ℕ, ◌-◌, ◌%◌, Bool, true, false, ◌&&◌, ◌||◌, ◌==◌, if◌then◌else◌, nat_lt, List, [], ◌∷◌, length, take, drop}
use Rattle.std.specs.List.{list_any, range_with_len, slice_index, suffix_len}
use Rattle.std.specs.Str.{byte}
use Rattle.plan_rules.specs.declared.crontabs.Kind.{Kind}
use Rattle.plan_rules.specs.declared.crontabs.Kind.TheVariants.{User, System}
use Rattle.plan_texts.specs.Lines.{after_blanks}
use Rattle.plan_texts.specs.Text.{begins_with}
use Rattle.plan_cron.specs.Lines.{before_nul, most_kept}
use Rattle.plan_cron.specs.Words.{after_word, after_words}

-- ---- the command as cron cuts it from a line

-- what follows the rule of a line: a word that begins with `@`, or five fields (crontab(5))
abbrev pub after_rule : (line : List ℕ) → List ℕ
after_rule line = if begins_with (λ b. b == byte "@") (after_blanks line) then after_words 1 line else after_words 5 line

-- the command: in a user's crontab what follows the rule and blanks; in the system's what follows the user and one blank
-- (load_entry of cron 3.0pl1)
abbrev pub cut_command : Kind → (line : List ℕ) → List ℕ
cut_command User line = after_blanks (after_rule line)
cut_command System line = drop 1 (after_word (after_rule line))

-- a command has more bytes than cron keeps, so it ignores the crontab (load_entry of cron 3.0pl1)
unfoldable pub is_too_long : Kind → (line : List ℕ) → Bool
is_too_long kind line = nat_lt most_kept (length (before_nul (cut_command kind line)))

-- the command of a user's crontab begins with `*`, so cron ignores the crontab (load_entry of cron 3.0pl1)
abbrev pub begins_with_star : Kind → (command : List ℕ) → Bool
begins_with_star User command = begins_with (λ b. b == byte "*") command
begins_with_star System command = false

-- ---- how cron changes a command

abbrev pub is_backslash : ℕ → Bool
is_backslash b = b == byte "\\"

-- the byte at a position is a `%` after an even number of backslashes
abbrev pub is_bare_percent : (command : List ℕ) → ℕ → Bool
is_bare_percent command i =
    (slice_index command i == byte "%") && (suffix_len is_backslash (take i command) % 2 == 0)

-- a command has such a `%`: cron ends the command there, and passes the rest as its input (crontab(5); child_process of cron
-- 3.0pl1)
abbrev pub has_bare_percent : (command : List ℕ) → Bool
has_bare_percent command = list_any (is_bare_percent command) (range_with_len 0 (length command))

-- the byte at a position, from 1, is a backslash after another one
abbrev pub is_second_backslash : (command : List ℕ) → ℕ → Bool
is_second_backslash command i = is_backslash (slice_index command (i - 1)) && is_backslash (slice_index command i)

-- a command has two backslashes in a row, of which cron removes one (child_process of cron 3.0pl1)
abbrev pub has_two_backslashes : (command : List ℕ) → Bool
has_two_backslashes command = list_any (is_second_backslash command) (range_with_len 1 (length command - 1))

-- ---- what the shell gets

-- a byte before which cron removes a backslash (child_process of cron 3.0pl1)
abbrev pub is_escapable : ℕ → Bool
is_escapable b = (b == byte "%") || is_backslash b

-- what the shell gets of the rest of a command, after a backslash or not: what comes before the first `%` that no backslash
-- takes, where `\%` and `\\` are `%` and `\` (child_process of cron 3.0pl1; crontab(5))
abbrev pub given_from : (escaped : Bool) → (command : List ℕ) → List ℕ
given_from true [] = byte "\\" ∷ []
given_from true (b ∷ more) =
    if is_escapable b then b ∷ given_from false more else byte "\\" ∷ b ∷ given_from false more
given_from false [] = []
given_from false (b ∷ more) =
    if b == byte "%" then [] else (if is_backslash b then given_from true more else b ∷ given_from false more)

-- what the shell gets of a command
abbrev pub shell_command : (command : List ℕ) → List ℕ
shell_command command = given_from false command
