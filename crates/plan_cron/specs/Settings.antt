-- Which lines cron reads as settings (load_env of cron 3.0pl1; crontab(5), environment settings).
use Rattle.std.specs.Prelude.{ℕ, Bool, true, false, not, ◌&&◌, ◌||◌, ◌==◌, if◌then◌else◌, nat_le, List, [], ◌∷◌, ◌++◌, length, take, drop, codes, Option, Some, None, option_map}
use Rattle.std.specs.List.{before_first, list_all, prefix_len, position_or_len}
use Rattle.std.specs.Option.{option_and_then, option_map_or}
use Rattle.std.specs.Str.{byte}
use Rattle.plan_texts.specs.Lines.{after_blanks}
use Rattle.plan_texts.specs.Text.{begins_with}
use Rattle.plan_texts.specs.WholeLines.{trimmed}
use Rattle.plan_cron.specs.Lines.{before_nul, is_read, most_kept}

-- the white space of settings: a space, a tab, a vertical tab, a form feed or a carriage return (isspace of C)
abbrev pub is_space : ℕ → Bool
is_space b = (b == byte " ") || (nat_le 9 b && nat_le b 13)

-- a text without the white space at its start
abbrev pub after_spaces : List ℕ → List ℕ
after_spaces text = drop (prefix_len is_space text) text

-- a quote around a name or a value
abbrev pub is_quote : ℕ → Bool
is_quote b = (b == byte "\"") || (b == byte "'")

-- what follows a byte at the start of a text
abbrev pub after_byte : ℕ → List ℕ → Option (List ℕ)
after_byte mark [] = None
after_byte mark (b ∷ more) = if b == mark then Some more else None

-- what follows a quote, which ends the name that began with one; the name has no `=` (load_env of cron 3.0pl1)
abbrev pub after_quoted : (quote : ℕ) → List ℕ → Option (List ℕ)
after_quoted quote text =
    let ends : ℕ → Bool = λ b. (b == quote) || (b == byte "=") in
    after_byte quote (drop (position_or_len ends text) text)

-- what follows a name without quotes, which ends at white space or at `=` (load_env of cron 3.0pl1)
abbrev pub after_plain : List ℕ → List ℕ
after_plain text = let ends : ℕ → Bool = λ b. is_space b || (b == byte "=") in drop (position_or_len ends text) text

-- what follows the name of a setting, at the start of a text
abbrev pub after_name : List ℕ → Option (List ℕ)
after_name [] = Some []
after_name (b ∷ more) = if is_quote b then after_quoted b more else Some (after_plain (b ∷ more))

-- the value of a setting, if the text has a name, white space or none, and `=`
abbrev pub value_of : List ℕ → Option (List ℕ)
value_of text =
    option_map after_spaces (option_and_then (λ rest. after_byte (byte "=") (after_spaces rest)) (after_name text))

-- a value that begins with a quote has another one, and then only white space (load_env of cron 3.0pl1)
abbrev pub is_closed : (quote : ℕ) → List ℕ → Bool
is_closed quote text = option_map_or (list_all is_space) (after_byte quote (drop (position_or_len (λ b. b == quote) text) text)) false

-- a value isn't empty (load_env of cron 3.0pl1)
abbrev pub is_value : List ℕ → Bool
is_value [] = false
is_value (b ∷ more) = if is_quote b then is_closed b more else true

-- the part of a line that decides whether it is a setting
abbrev pub deciding_part : List ℕ → List ℕ
deciding_part line = take most_kept (before_nul (after_blanks line))

-- cron reads a line as a setting (load_env of cron 3.0pl1)
abbrev pub is_setting : (line : List ℕ) → Bool
is_setting line = option_map_or is_value (value_of (deciding_part line)) false

-- ---- what is reported

-- the line has everything of a setting but a value
abbrev pub has_no_value : (line : List ℕ) → Bool
has_no_value line = option_map_or (λ value. length value == 0) (value_of (deciding_part line)) false

-- the name of a setting as it is written
abbrev pub written_name : (line : List ℕ) → List ℕ
written_name line = trimmed (before_first (λ b. b == byte "=") line)

-- what a setting without a value has to be (agenda)
abbrev pub empty_advice : (name : List ℕ) → List ℕ
empty_advice name = codes "write " ++ (name ++ (codes "=\"\" for " ++ (name ++ codes "=")))

-- why cron ignores the crontab, if it reads a line that makes no job, which agenda takes as a setting, but isn't one for cron: it
-- can't read the line as a job either (load_user of cron 3.0pl1)
unfoldable pub setting_fault : (line : List ℕ) → Option (List ℕ)
setting_fault line =
    if not (is_read line) || is_setting line then None
    else (if has_no_value line then Some (empty_advice (written_name line)) else Some (codes "not a setting"))

-- cron reads a line as a setting though it begins with a word such as `@daily`: what follows the word begins with `=`
unfoldable pub is_setting_of_word : (line : List ℕ) → Bool
is_setting_of_word line = begins_with (λ b. b == byte "@") (after_blanks line) && is_setting line
