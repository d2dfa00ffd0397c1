-- Blanks in a calendar event that systemd 252 doesn't read.
use Rattle.std.specs.Prelude.{ℕ, ◌-◌, Bool, not, ◌&&◌, ◌||◌, nat_le, List, length, take, drop, is_some}
use Rattle.std.specs.Char.{is_ascii_alphabetic}
use Rattle.std.specs.List.{suffix_len}
use Rattle.std.specs.Str.{byte}
use Rattle.plan_texts.specs.Text.{begins_with, is_blank}
use Rattle.plan_grammar.specs.Event.{expression_of, holds_byte}

-- how many bytes the last word of a text has
abbrev pub last_word_len : List ℕ → ℕ
last_word_len text = suffix_len (λ b. not (is_blank b)) text

-- a text without its last word
abbrev pub without_last_word : List ℕ → List ℕ
without_last_word text = take (length text - last_word_len text) text

-- how many blanks a text ends with
abbrev pub blanks_at_end : List ℕ → ℕ
blanks_at_end text = suffix_len is_blank text

-- a text without the blanks at its end
abbrev pub without_blanks : List ℕ → List ℕ
without_blanks text = take (length text - blanks_at_end text) text

-- an event's text ends with a zone: its last word begins with a letter
abbrev pub ends_with_zone : List ℕ → Bool
ends_with_zone text = begins_with is_ascii_alphabetic (drop (length text - last_word_len text) text)

-- a text that ends with a time, which has a `:`, or is a word such as `daily`
abbrev pub ends_with_time : List ℕ → Bool
ends_with_time text = holds_byte (byte ":") text || is_some (expression_of text)

-- two or more blanks before the zone, and before them a time or a word such as `daily` (systemd 252)
abbrev pub has_far_zone : List ℕ → Bool
has_far_zone text =
    nat_le 2 (blanks_at_end (without_last_word text))
    && (ends_with_zone text && ends_with_time (without_blanks (without_last_word text)))

-- systemd 252 doesn't read the blanks of an event: it takes no tab, and no second blank before a zone after a time
abbrev pub has_bad_blanks : List ℕ → Bool
has_bad_blanks text = holds_byte 9 text || has_far_zone text
