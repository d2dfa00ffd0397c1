-- What a time span means, in microseconds (systemd.time(7), parsing time spans; limits and rounding as in systemd 252).
-- A text is the list of its bytes.
use Rattle.std.specs.Prelude.{ℕ, zero, suc, ◌+◌, ◌-◌, ◌*◌, ◌/◌, ◌^◌, Bool, not, ◌&&◌, ◌||◌, ◌==◌, nat_eq, nat_lt, if◌then◌else◌, List, [], ◌∷◌, length, take, drop, find, codes, Option, Some, None}
use Rattle.std.specs.Char.{is_ascii_digit}
use Rattle.std.specs.List.{prefix_len, suffix_len, take_while, starts_with}
use Rattle.std.specs.Option.{option_and_then}
use Rattle.std.specs.Str.{byte, bytes_eq}
use Rattle.plan_texts.specs.Text.{begins_with, digits_after}

-- one step after another: if one has no value, the result has none
infixl 10 ◌>>=◌
abbrev pub ◌>>=◌ : {A B : Type 0} → Option A → (A → Option B) → Option B
step >>= next = option_and_then next step

-- ---- white space

-- white space is a space, a tab, a newline or a carriage return (systemd 252)
abbrev pub is_whitespace : ℕ → Bool
is_whitespace b = ((b == byte " ") || (b == 9)) || ((b == byte "\n") || (b == byte "\r"))

-- a text without the white space at its start
abbrev pub after_whitespace : List ℕ → List ℕ
after_whitespace text = drop (prefix_len is_whitespace text) text

-- a text without the white space at its end
abbrev pub before_whitespace : List ℕ → List ℕ
before_whitespace text = take (length text - suffix_len is_whitespace text) text

-- ---- units

-- the microseconds of a second
abbrev pub second : ℕ
second = 1_000_000

-- the microseconds of a minute
abbrev pub minute : ℕ
minute = 60_000_000

-- the microseconds of an hour
abbrev pub hour : ℕ
hour = 3_600_000_000

-- the microseconds of a day
abbrev pub day : ℕ
day = 86_400_000_000

-- the microseconds of a week
abbrev pub week : ℕ
week = 604_800_000_000

-- the microseconds of a month, the twelfth part of a year (systemd.time(7), parsing time spans)
abbrev pub month : ℕ
month = 2_629_800_000_000

-- the microseconds of a year, which has 365.25 days (systemd.time(7), parsing time spans)
abbrev pub year : ℕ
year = 31_557_600_000_000

-- the units, each with its microseconds, those with longer names first (systemd.time(7), parsing time spans)
abbrev pub units : List (List ℕ × ℕ)
units =
    (codes "seconds", second)
    ∷ (codes "minutes", minute)
    ∷ (codes "second", second)
    ∷ (codes "minute", minute)
    ∷ (codes "months", month)
    ∷ (codes "hours", hour)
    ∷ (codes "weeks", week)
    ∷ (codes "month", month)
    ∷ (codes "years", year)
    ∷ (codes "usec", 1)
    ∷ (codes "msec", 1_000)
    ∷ (codes "hour", hour)
    ∷ (codes "days", day)
    ∷ (codes "week", week)
    ∷ (codes "year", year)
    ∷ (194 ∷ 181 ∷ codes "s", 1)
    ∷ (206 ∷ 188 ∷ codes "s", 1)
    ∷ (codes "sec", second)
    ∷ (codes "min", minute)
    ∷ (codes "day", day)
    ∷ (codes "us", 1)
    ∷ (codes "ms", 1_000)
    ∷ (codes "hr", hour)
    ∷ (codes "s", second)
    ∷ (codes "m", minute)
    ∷ (codes "h", hour)
    ∷ (codes "d", day)
    ∷ (codes "w", week)
    ∷ (codes "M", month)
    ∷ (codes "y", year)
    ∷ []

-- whether a text begins with the name of a unit
abbrev pub has_unit : List ℕ → List ℕ × ℕ → Bool
has_unit text unit = starts_with nat_eq text unit.0

-- the unit after a number, and what follows it, from the unit that was found after white space; if there is none, the unit
-- is seconds, but the number has to be followed by white space or the end of the text (systemd 252)
abbrev pub unit_found : List ℕ → Option (List ℕ × ℕ) → Option (ℕ × List ℕ)
unit_found text (Some unit) = Some (unit.1, drop (length unit.0) (after_whitespace text))
unit_found text None =
    if begins_with (λ b. not (is_whitespace b)) text then None else Some (second, after_whitespace text)

-- the microseconds of the unit at the start of a text, and what follows it; the longest unit that fits is taken
unfoldable pub unit_in_front : List ℕ → Option (ℕ × List ℕ)
unit_in_front text = unit_found text (find (has_unit (after_whitespace text)) units)

-- ---- numbers

-- the digits of a number before and after its point, and what follows the number
pub record NumberParts : Type 0 where
  pub whole : List ℕ
  pub fraction : List ℕ
  pub rest : List ℕ

-- what follows the digits at the start of a text
abbrev pub after_digits : List ℕ → List ℕ
after_digits text = drop (prefix_len is_ascii_digit text) text

-- a text without the `+` of a number at its start; a digit has to follow the `+` (systemd 252)
abbrev pub after_plus : List ℕ → List ℕ
after_plus [] = []
after_plus (b ∷ bs) = if (b == byte "+") && begins_with is_ascii_digit bs then bs else b ∷ bs

-- a number from its digits before the point and from what follows them: a point with at least one digit after it, or no
-- point and at least one digit before it (systemd 252)
abbrev pub with_fraction : List ℕ → List ℕ → Option NumberParts
with_fraction whole text =
    if begins_with (λ b. b == byte ".") text
    then (if begins_with is_ascii_digit (drop 1 text)
    then Some (record { whole = whole; fraction = take_while is_ascii_digit (drop 1 text); rest = after_digits (drop 1 text) })
    else None)
    else (if length whole == 0 then None else Some (record { whole = whole; fraction = []; rest = text }))

-- the number at the start of a text; None if the text doesn't begin with one
unfoldable pub number_in_front : List ℕ → Option NumberParts
number_in_front text = with_fraction (take_while is_ascii_digit (after_plus text)) (after_digits (after_plus text))

-- ---- the microseconds of a pair

-- what `infinity` means: more than any other time span (systemd.time(7), parsing time spans)
abbrev pub infinity : ℕ
infinity = 2 ^ 64 - 1

-- the microseconds of a whole number of units; None if the number is too large (systemd 252)
abbrev pub whole_micros : ℕ → List ℕ → Option ℕ
whole_micros unit digits =
    let number = digits_after 0 digits in
    if nat_lt number (2 ^ 63) && nat_lt number (infinity / unit) then Some (number * unit) else None

-- the microseconds of digits after the point, the first of which is at this place: the digit times the unit / 10 ^ place,
-- which is rounded down (systemd 252)
abbrev pub fraction_from : ℕ → ℕ → List ℕ → ℕ
fraction_from unit place [] = 0
fraction_from unit place (digit ∷ more) = (digit - byte "0") * (unit / 10 ^ place) + fraction_from unit (place + 1) more

-- the microseconds of the digits after the point
abbrev pub fraction_micros : ℕ → List ℕ → ℕ
fraction_micros unit digits = fraction_from unit 1 digits

-- the microseconds of the number and unit at the start of a text, and what follows them and white space
unfoldable pub pair_in_front : List ℕ → Option (ℕ × List ℕ)
pair_in_front text = do
  number ← number_in_front text
  unit ← unit_in_front (number.rest)
  whole ← whole_micros (unit.0) (number.whole)
  Some (whole + fraction_micros (unit.0) (number.fraction), after_whitespace (unit.1))

-- ---- time spans

-- the sum of the pairs that a text consists of, at most `most` of them; None if it doesn't consist of such pairs
unfoldable pub sum_of_pairs : List ℕ → ℕ → Option ℕ
sum_of_pairs [] most = Some 0
sum_of_pairs (b ∷ bs) zero = None
sum_of_pairs (b ∷ bs) (suc most) = do
  pair ← pair_in_front (b ∷ bs)
  sum ← sum_of_pairs (pair.1) most
  Some (pair.0 + sum)

-- a sum, which has to be less than `infinity` (systemd 252)
abbrev pub finite : ℕ → Option ℕ
finite sum = if nat_lt sum infinity then Some sum else None

-- the sum of the pairs that a text consists of; each pair has at least one byte
abbrev pub finite_sum : List ℕ → Option ℕ
finite_sum text = sum_of_pairs text (length text) >>= finite

-- the time span of a text without white space at its ends: `infinity`, or one or more pairs, which are added
-- (systemd.time(7), parsing time spans)
abbrev pub span_of : List ℕ → Option ℕ
span_of text =
    if bytes_eq text (codes "infinity") then Some infinity
    else (if length text == 0 then None else finite_sum text)

-- the microseconds of a time span; None if the text is none (systemd.time(7), parsing time spans)
unfoldable pub time_span : List ℕ → Option ℕ
time_span text = span_of (before_whitespace (after_whitespace text))
