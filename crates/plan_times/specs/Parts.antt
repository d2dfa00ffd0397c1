-- The parts of a text: without its blanks, before and after its last word, and its numbers. A text is the list of its bytes.
use Rattle.std.specs.Prelude.{ℕ, ◌-◌, Bool, not, ◌||◌, ◌==◌, nat_lt, if◌then◌else◌, List, length, take, Option, Some, None}
use Rattle.std.specs.List.{suffix_len, before_last, after_last}
use Rattle.std.specs.Str.{byte}
use Rattle.plan_texts.specs.Lines.{after_blanks}
use Rattle.plan_texts.specs.Text.{is_blank, decimal_number}

-- a text without the blanks at its end
abbrev pub before_blanks : List ℕ → List ℕ
before_blanks text = take (length text - suffix_len is_blank text) text

-- a text without the blanks at its ends
abbrev pub trimmed : List ℕ → List ℕ
trimmed text = before_blanks (after_blanks text)

-- no byte of the text passes the test
abbrev pub has_none : (ℕ → Bool) → List ℕ → Bool
has_none test text = suffix_len (λ b. not (test b)) text == length text

-- what is before the last word of a text, without the blanks between them, and that word; None if the text has no blank
unfoldable pub cut_last_word : List ℕ → Option (List ℕ × List ℕ)
cut_last_word text =
    if has_none is_blank text then None else Some (before_blanks (before_last is_blank text), after_last is_blank text)

-- the letter between a date and a time of day (ISO 8601), in any case
abbrev pub is_t : ℕ → Bool
is_t b = (b == byte "T") || (b == byte "t")

-- what is before and after the last T of a text; None if it has none
unfoldable pub cut_at_t : List ℕ → Option (List ℕ × List ℕ)
cut_at_t text = if has_none is_t text then None else Some (before_last is_t text, after_last is_t text)

-- the number that some digits write, if it is less than a limit
abbrev pub below : ℕ → Option ℕ → Option ℕ
below limit None = None
below limit (Some n) = if nat_lt n limit then Some n else None

-- the number that a text of exactly so many digits writes, if it is less than a limit
unfoldable pub number_of : ℕ → ℕ → List ℕ → Option ℕ
number_of digits limit text = if length text == digits then below limit (decimal_number text) else None
