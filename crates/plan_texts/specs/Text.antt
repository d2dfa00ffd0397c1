-- How a text is cut into words and pieces, and which texts are numbers. A text is the list of its bytes.
use Rattle.std.specs.Prelude.{◌≡◌, ℕ, ◌+◌, ◌-◌, ◌*◌, ◌<◌, Bool, false, not, ◌&&◌, ◌||◌, ◌==◌, nat_le, nat_eq, if◌then◌else◌, List, [], ◌∷◌, ◌++◌, length, drop, filter, fold, Option, Some, None}
use Rattle.std.specs.Char.{is_ascii_digit}
use Rattle.std.specs.List.{slice_split, starts_with, list_all}
use Rattle.std.specs.Option.{option_map}
use Rattle.std.specs.Str.{byte}
use Rattle.plan_texts.specs.Limits.{most_digits}

-- a blank is a space or a tab (crontab(5), fields)
abbrev pub is_blank : ℕ → Bool
is_blank b = (b == byte " ") || (b == 9)

-- the words of a text: the parts between its blanks (crontab(5), fields)
unfoldable pub words : List ℕ → List (List ℕ)
words text = filter (λ word. not (length word == 0)) (slice_split is_blank text)

-- the pieces of a text around a byte: n occurrences of that byte give n + 1 pieces (crontab(5), lists)
abbrev pub pieces : ℕ → List ℕ → List (List ℕ)
pieces mark text = slice_split (λ b. b == mark) text

-- whether the text has a first byte that passes a test
abbrev pub begins_with : (ℕ → Bool) → List ℕ → Bool
begins_with test [] = false
begins_with test (b ∷ bs) = test b

-- two parts of a text, with another text put before the first
abbrev pub after_text : List ℕ → Option (List ℕ × List ℕ) → Option (List ℕ × List ℕ)
after_text front cut = option_map (λ parts. (front ++ parts.0, parts.1)) cut

-- what comes before and after the first occurrence of a mark; None if the text doesn't contain the mark (agenda)
unfoldable pub cut_at : List ℕ → List ℕ → Option (List ℕ × List ℕ)
cut_at mark [] = None
cut_at mark (b ∷ bs) =
    if starts_with nat_eq (b ∷ bs) mark
    then Some ([], drop (length mark) (b ∷ bs))
    else after_text (b ∷ []) (cut_at mark bs)

-- whether a mark is at a place of a text, from 0
abbrev pub stands_at : List ℕ → List ℕ → ℕ → Bool
stands_at mark text place = starts_with nat_eq (drop place text) mark

-- the mark is at no place before this one
abbrev pub StandsNowhereBefore : List ℕ → List ℕ → ℕ → Type 0
StandsNowhereBefore mark text end = (place : ℕ) → place < end → stands_at mark text place ≡ false

-- the number that decimal digits write if they follow those of the number `before`
abbrev pub digits_after : ℕ → List ℕ → ℕ
digits_after before digits = fold (λ n digit. n * 10 + (digit - byte "0")) before digits

-- a number is 1 to 4 decimal digits (agenda)
unfoldable pub decimal_number : List ℕ → Option ℕ
decimal_number text =
    if nat_le 1 (length text) && (nat_le (length text) most_digits && list_all is_ascii_digit text)
    then Some (digits_after 0 text)
    else None
