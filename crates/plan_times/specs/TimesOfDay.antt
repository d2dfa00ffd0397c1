-- Times of day and offsets from UTC, as people write them.
use Rattle.std.specs.Prelude.{ℕ, ◌+◌, ◌*◌, ◌==◌, if◌then◌else◌, List, [], ◌∷◌, length, take, drop, codes, Option, Some, None, ℤ, pos, neg_ℤ}
use Rattle.std.specs.Option.{option_map, option_or}
use Rattle.std.specs.Str.{byte, str_eq_ignore_ascii_case}
use Rattle.plan_spans.specs.Spans.{◌>>=◌}
use Rattle.plan_texts.specs.Text.{cut_at}
use Rattle.plan_times.specs.Parts.{number_of}

-- an hour has one or two digits, and is below 24
unfoldable pub hour_of : List ℕ → Option ℕ
hour_of text = option_or (number_of 1 24 text) (number_of 2 24 text)

-- the seconds of minutes, or of minutes and seconds, from the text and what is before and after its first colon, if it has one
abbrev pub minutes_by : List ℕ → Option (List ℕ × List ℕ) → Option ℕ
minutes_by text None = option_map (λ minute. minute * 60) (number_of 2 60 text)
minutes_by text (Some parts) = do
  minute ← number_of 2 60 (parts.0)
  second ← number_of 2 60 (parts.1)
  Some (minute * 60 + second)

-- the seconds of minutes, or of minutes and seconds with a colon between them; both have two digits
unfoldable pub minutes_of : List ℕ → Option ℕ
minutes_of text = minutes_by text (cut_at (codes ":") text)

-- the seconds from midnight to a time of day, written as 22:00 or 22:00:30 (systemd.time(7))
unfoldable pub time_of_day : List ℕ → Option ℕ
time_of_day text = do
  parts ← cut_at (codes ":") text
  hour ← hour_of (parts.0)
  rest ← minutes_of (parts.1)
  Some (hour * 3600 + rest)

-- the hours and minutes of an offset: with a colon between them, or two digits each
abbrev pub hours_and_minutes : List ℕ → Option (List ℕ × List ℕ) → Option (List ℕ × List ℕ)
hours_and_minutes text (Some parts) = Some parts
hours_and_minutes text None = if length text == 4 then Some (take 2 text, drop 2 text) else None

-- the seconds of an offset's hours and minutes, 01:00 or 0330 (RFC 3339, ISO 8601)
unfoldable pub offset_digits : List ℕ → Option ℕ
offset_digits text = do
  parts ← hours_and_minutes text (cut_at (codes ":") text)
  hour ← number_of 2 24 (parts.0)
  minute ← number_of 2 60 (parts.1)
  Some (hour * 3600 + minute * 60)

-- the seconds by which a zone's clock is ahead of UTC: Z, or a sign, hours and minutes (RFC 3339, ISO 8601)
unfoldable pub offset_of_text : List ℕ → Option ℤ
offset_of_text [] = None
offset_of_text (b ∷ bs) =
    if str_eq_ignore_ascii_case (b ∷ bs) (codes "z") then Some (pos 0)
    else (if b == byte "+" then option_map (λ n. pos n) (offset_digits bs)
    else (if b == byte "-" then option_map (λ n. neg_ℤ (pos n)) (offset_digits bs)
    else None))
