-- Why a line of a crontab may be rejected: it is written for another program (agenda).
use Rattle.std.specs.Prelude.{ℕ, Bool, true, false, ◌&&◌, ◌||◌, ◌==◌, nat_eq, if◌then◌else◌, List, [], ◌∷◌, codes, Option, Some, None}
use Rattle.std.specs.Char.{is_ascii_digit, is_ascii_uppercase}
use Rattle.std.specs.List.{list_any, range_with_len, starts_with}
use Rattle.std.specs.Str.{byte, bytes_eq}
use Rattle.plan_texts.specs.Text.{begins_with}
use Rattle.plan_cron.specs.Words.{word_at}

-- the first line of a file begins with a byte order mark, U+FEFF
abbrev pub has_mark : (number : ℕ) → (line : List ℕ) → Bool
has_mark number line = (number == 1) && starts_with nat_eq line (239 ∷ 187 ∷ 191 ∷ [])

-- a field of Quartz that sets no value
abbrev pub is_question : (word : List ℕ) → Bool
is_question word = bytes_eq word (codes "?")

-- a word can be a field of Quartz: it begins with a digit, `*`, or a capital letter, as the names of days and `L` do
abbrev pub is_field : (word : List ℕ) → Bool
is_field word = begins_with (λ b. is_ascii_digit b || ((b == byte "*") || is_ascii_uppercase b)) word

-- a line has 6 or 7 fields with `?` or `#`, as rules of Quartz have: seconds, minutes, hours, day of the month, month and day of
-- the week, and a year or none. `?` is a day of the month or of the week, and `#` is in a day of the week
abbrev pub is_quartz : (line : List ℕ) → Bool
is_quartz line =
    is_question (word_at line 6)
    || (is_field (word_at line 6) && (is_question (word_at line 4) || list_any (λ b. b == byte "#") (word_at line 6)))

-- a word is `H`, or begins with it as in `H/15` and `H(0-29)`, as fields of Jenkins do
abbrev pub is_hash : (word : List ℕ) → Bool
is_hash word =
    bytes_eq word (codes "H") || (starts_with nat_eq word (codes "H/") || starts_with nat_eq word (codes "H("))

-- a line has such a field among its first five words, or begins with the word `@every` of other programs
abbrev pub is_foreign : (line : List ℕ) → Bool
is_foreign line =
    list_any (λ place. is_hash (word_at line place)) (range_with_len 1 5) || bytes_eq (word_at line 1) (codes "@every")

-- the hint for the rejected line with a number, if there is one
abbrev pub hint : (number : ℕ) → (line : List ℕ) → Option (List ℕ)
hint number line =
    if has_mark number line then Some (codes "the file begins with a byte order mark")
    else (if is_quartz line then Some (codes "Quartz has a field for seconds; crontab has none")
    else (if is_foreign line then Some (codes "Jenkins' H and @every are not cron's") else None))
