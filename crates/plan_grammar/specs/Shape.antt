-- The shape of a calendar event: which of its words, and which pieces of them, are its components (systemd.time(7)).
use Rattle.std.specs.Prelude.{ℕ, Bool, not, ◌||◌, ◌==◌, if◌then◌else◌, List, [], ◌∷◌, codes, Option, Some, None, Ok}
use Rattle.std.specs.Char.{is_ascii_alphabetic}
use Rattle.std.specs.List.{list_any}
use Rattle.std.specs.Option.{option_map}
use Rattle.std.specs.Str.{byte}
use Rattle.plan_grammar.specs.declared.fault.RuleCause.TheVariants.{WrongParts}
use Rattle.plan_match.specs.declared.event.DayCount.{DayCount}
use Rattle.plan_match.specs.declared.event.DayCount.TheVariants.{FromStart, FromEnd}
use Rattle.plan_grammar.specs.declared.shape.Date.{Date}
use Rattle.plan_grammar.specs.declared.shape.Time.{Time}
use Rattle.plan_grammar.specs.declared.shape.Shape.{Shape}
use Rattle.plan_texts.specs.Text.{pieces, begins_with, cut_at}
use Rattle.plan_texts.specs.Steps.{◌>>=◌}
use Rattle.plan_grammar.specs.Readings.{Reading, rejected}

-- the components of a date, as they are written
pub record DateText : Type 0 where
  pub year : List ℕ
  pub month : List ℕ
  pub day : List ℕ
  pub count : DayCount

-- the components of a time of day, as they are written
pub record TimeText : Type 0 where
  pub hour : List ℕ
  pub minute : List ℕ
  pub second : List ℕ

-- the weekday part, if there is one, the date and the time
pub record ShapeText : Type 0 where
  pub weekdays : Option (List ℕ)
  pub date : DateText
  pub time : TimeText

-- the components of a date that the code borrows from the text
abbrev pub date_text : Date → DateText
date_text date = record { year = date.year.now; month = date.month.now; day = date.day.now; count = date.count }

-- the components of a time that the code borrows from the text
abbrev pub time_text : Time → TimeText
time_text time = record { hour = time.hour.now; minute = time.minute.now; second = time.second.now }

-- the parts of an event that the code borrows from the text
abbrev pub shape_text : Shape → ShapeText
shape_text shape = record {
  weekdays = option_map (λ text. text.now) shape.weekdays;
  date = date_text shape.date;
  time = time_text shape.time;
}

-- month and day, or year, month and day; a missing year is every year (systemd.time(7))
abbrev pub date_from_start : List (List ℕ) → Reading DateText
date_from_start (month ∷ day ∷ []) =
    Ok (record { year = codes "*"; month = month; day = day; count = FromStart })
date_from_start (year ∷ month ∷ day ∷ []) =
    Ok (record { year = year; month = month; day = day; count = FromStart })
date_from_start other = rejected 0 WrongParts

-- before `~` comes a month, or a year and a month (systemd.time(7), `~`)
abbrev pub date_from_end : List (List ℕ) → List ℕ → Reading DateText
date_from_end (month ∷ []) day = Ok (record { year = codes "*"; month = month; day = day; count = FromEnd })
date_from_end (year ∷ month ∷ []) day = Ok (record { year = year; month = month; day = day; count = FromEnd })
date_from_end other day = rejected 0 WrongParts

-- a date, which is cut at its first `~` if it has one (systemd.time(7), `~`)
abbrev pub cut_date : List ℕ → Option (List ℕ × List ℕ) → Reading DateText
cut_date text None = date_from_start (pieces (byte "-") text)
cut_date text (Some cut) = date_from_end (pieces (byte "-") (cut.0)) (cut.1)

-- a date (systemd.time(7))
unfoldable pub date_reading : List ℕ → Reading DateText
date_reading text = cut_date text (cut_at (codes "~") text)

-- hour and minute, or hour, minute and second; missing seconds are 00 (systemd.time(7))
abbrev pub time_of_pieces : List (List ℕ) → Reading TimeText
time_of_pieces (hour ∷ minute ∷ []) = Ok (record { hour = hour; minute = minute; second = codes "00" })
time_of_pieces (hour ∷ minute ∷ second ∷ []) = Ok (record { hour = hour; minute = minute; second = second })
time_of_pieces other = rejected 0 WrongParts

-- a time of day, with `:` between its pieces (systemd.time(7))
unfoldable pub time_reading : List ℕ → Reading TimeText
time_reading text = time_of_pieces (pieces (byte ":") text)

-- a missing date is every day (systemd.time(7))
abbrev pub every_day : DateText
every_day = record { year = codes "*"; month = codes "*"; day = codes "*"; count = FromStart }

-- a missing time is midnight (systemd.time(7))
abbrev pub midnight : TimeText
midnight = record { hour = codes "00"; minute = codes "00"; second = codes "00" }

-- a word that contains `:` is a time, any other word is a date (systemd.time(7))
abbrev pub is_time : List ℕ → Bool
is_time word = list_any (λ b. b == byte ":") word

-- a single word after the weekday part: a time or a date
abbrev pub one_word : Option (List ℕ) → List ℕ → Reading ShapeText
one_word weekdays word =
    if is_time word
    then (time_reading word >>= λ time. Ok (record { weekdays = weekdays; date = every_day; time = time }))
    else (date_reading word >>= λ date. Ok (record { weekdays = weekdays; date = date; time = midnight }))

-- two words: a date and then a time
abbrev pub two_words : Option (List ℕ) → List ℕ → List ℕ → Reading ShapeText
two_words weekdays first second =
    if is_time first || not (is_time second)
    then rejected 0 WrongParts
    else (date_reading first >>= λ date. time_reading second >>= λ time. Ok (record { weekdays = weekdays; date = date; time = time }))

-- the words after the weekday part: at most two (systemd.time(7))
unfoldable pub dated : Option (List ℕ) → List (List ℕ) → Reading ShapeText
dated weekdays [] = Ok (record { weekdays = weekdays; date = every_day; time = midnight })
dated weekdays (word ∷ []) = one_word weekdays word
dated weekdays (first ∷ second ∷ []) = two_words weekdays first second
dated weekdays other = rejected 0 WrongParts

-- a first word that begins with a letter is the weekday part; no words at all are rejected (agenda)
unfoldable pub shape_reading : List (List ℕ) → Reading ShapeText
shape_reading [] = rejected 0 WrongParts
shape_reading (first ∷ others) =
    if begins_with is_ascii_alphabetic first then dated (Some first) others else dated None (first ∷ others)
