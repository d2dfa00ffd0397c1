-- What cron takes as a line, and which lines it reads (cron 3.0pl1).
use Rattle.std.specs.Prelude.{ℕ, ◌+◌, Bool, not, ◌&&◌, ◌==◌, List, drop, Option, option_map}
use Rattle.std.specs.List.{after_last, before_first, list_any, position}
use Rattle.std.specs.Str.{byte}
use Rattle.plan_texts.specs.Lines.{after_blanks}
use Rattle.plan_texts.specs.Text.{begins_with}

-- the number of bytes of a command, or of a line that is a setting, that cron keeps: its arrays have 1,000 bytes (cron 3.0pl1)
abbrev pub most_kept : ℕ
most_kept = 998

-- the number of the last line on which cron accepts a job or a setting: 10,000 lines, and 3 that crontab(1) once added (cron
-- 3.0pl1)
abbrev pub last_line : ℕ
last_line = 10003

-- a byte that ends a line for cron, which keeps texts as C does (cron 3.0pl1)
abbrev pub is_nul : ℕ → Bool
is_nul b = b == 0

-- what cron reads of a line or a part of it
abbrev pub before_nul : List ℕ → List ℕ
before_nul text = before_first is_nul text

-- cron reads a line unless it has nothing but blanks, or is a comment (skip_comments of cron 3.0pl1)
abbrev pub is_read : List ℕ → Bool
is_read line = begins_with (λ b. not (b == byte "#")) (after_blanks line)

-- cron ends a line that it reads at a NUL byte, and takes the rest as another line (get_string of cron 3.0pl1)
unfoldable pub ends_at_nul : List ℕ → Bool
ends_at_nul line = is_read line && list_any is_nul line

-- the last line has no newline, and cron reads it, so it ignores the crontab (load_user of cron 3.0pl1)
unfoldable pub is_unended : (text : List ℕ) → Bool
is_unended text = is_read (after_last (λ b. b == byte "\n") text)

-- the number of the first line that cron reads below the last one that it accepts, if there is one (load_user of cron 3.0pl1)
abbrev pub first_beyond : List (List ℕ) → Option ℕ
first_beyond lines = option_map (λ place. last_line + 1 + place) (position is_read (drop last_line lines))
