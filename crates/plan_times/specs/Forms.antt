-- What the text of a time means, before any clock is read (systemd.time(7), parsing timestamps; RFC 3339; agenda).
use Rattle.std.specs.Prelude.{ℕ, ◌+◌, ◌*◌, ◌/◌, ◌%◌, ◌^◌, not, ◌&&◌, ◌==◌, nat_lt, nat_le, if◌then◌else◌, List, [], ◌∷◌, length, take, drop, codes, Option, Some, None, Result, Ok, Err, ℤ, pos, negsuc, ◌-ℤ◌, ok_or}
use Rattle.std.specs.Char.{is_ascii_digit}
use Rattle.std.specs.List.{list_all}
use Rattle.std.specs.Option.{option_map, option_or}
use Rattle.std.specs.Str.{byte, str_eq_ignore_ascii_case}
use Rattle.plan_sets.specs.Limits.{end_second, seconds_a_day}
use Rattle.plan_spans.specs.Spans.{◌>>=◌, time_span, infinity}
use Rattle.plan_texts.specs.Text.{digits_after}
use Rattle.plan_times.specs.Parts.{trimmed, cut_last_word, cut_at_t}
use Rattle.plan_times.specs.Days.{first_day, day_of, date_of}
use Rattle.plan_times.specs.TimesOfDay.{time_of_day, offset_of_text}
use Rattle.plan_times.specs.declared.day.Day.{Day}
use Rattle.plan_times.specs.declared.day.Day.TheVariants.{Unnamed}
use Rattle.plan_times.specs.declared.fault.TimeFault.{TimeFault}
use Rattle.plan_times.specs.declared.fault.TimeFault.TheVariants.{BadTime, OutOfYears}
use Rattle.plan_times.specs.declared.local_text.Local.{Local}
use Rattle.plan_times.specs.declared.form.Form.{Form}
use Rattle.plan_times.specs.declared.form.Form.TheVariants.{Now, Second, Ahead, Back, Ago, OfClock, OfUtc}

-- ---- lengths

-- the seconds of a time span that is a whole number of seconds, and not `infinity`
unfoldable pub whole_seconds : List ℕ → Option ℕ
whole_seconds text = do
  micros ← time_span text
  if (micros % 1_000_000 == 0) && nat_lt micros infinity then Some (micros / 1_000_000) else None

-- the seconds of a length: at least 1, and below 2^32 (agenda)
abbrev pub within_lengths : ℕ → Option ℕ
within_lengths n = if nat_le 1 n && nat_lt n (2 ^ 32) then Some n else None

-- the seconds of the text of a length; a number alone is seconds, as in every time span (agenda)
unfoldable pub length_of : List ℕ → Option ℕ
length_of text = do
  seconds ← whole_seconds text
  within_lengths seconds

-- ---- local dates and times

-- a day at midnight
abbrev pub at_midnight : Day → Local
at_midnight day = record { day = day; time = 0 }

-- a time of day without a date
abbrev pub without_date : ℕ → Local
without_date time = record { day = Unnamed; time = time }

-- a day and a time of day, from the parts of a text
abbrev pub day_and_time : Option (List ℕ × List ℕ) → Option Local
day_and_time cut = do
  parts ← cut
  day ← day_of (parts.0)
  time ← time_of_day (parts.1)
  Some (record { day = day; time = time })

-- a local date and time: a day, a time of day, or both with blanks or a T between them
unfoldable pub local_of : List ℕ → Option Local
local_of text =
    option_or (option_map at_midnight (day_of text)) (option_or (option_map without_date (time_of_day text)) (option_or (day_and_time
    (cut_last_word text)) (day_and_time (cut_at_t text))))

-- ---- timestamps

-- the second with a date, a time of day and an offset from UTC, which counts from 1970; it may be too early
abbrev pub second_of_date : ℕ → ℕ → ℤ → ℤ
second_of_date day time offset = pos (day * seconds_a_day + time) -ℤ pos (first_day * seconds_a_day) -ℤ offset

-- the second of a date, and of a time of day of eight characters that an offset follows
unfoldable pub offset_second : List ℕ → List ℕ → Option ℤ
offset_second date text = do
  day ← date_of date
  time ← time_of_day (take 8 text)
  offset ← offset_of_text (drop 8 text)
  Some (second_of_date day time offset)

-- the same, from the parts of a text
abbrev pub offset_second_by : Option (List ℕ × List ℕ) → Option ℤ
offset_second_by cut = do
  parts ← cut
  if nat_le 8 (length (parts.1)) then offset_second (parts.0) (parts.1) else None

-- the second of a timestamp with an offset; a blank can be in place of the T (RFC 3339)
unfoldable pub timestamp_of : List ℕ → Option ℤ
timestamp_of text = option_or (offset_second_by (cut_at_t text)) (offset_second_by (cut_last_word text))

-- ---- forms

-- a second, if it is not before 1970
abbrev pub since_1970 : ℤ → Result Form TimeFault
since_1970 (pos n) = Ok (Second n)
since_1970 (negsuc n) = Err OutOfYears

-- digits that count seconds from 1970, if that is in the planner's years (systemd.time(7), `@`)
unfoldable pub counted : List ℕ → Result Form TimeFault
counted text =
    if (not (length text == 0)) && list_all is_ascii_digit text
    then (if nat_le (digits_after 0 text) end_second then Ok (Second (digits_after 0 text)) else Err OutOfYears)
    else Err BadTime

-- a time span, from which a form is made
abbrev pub span_form : (ℕ → Form) → List ℕ → Result Form TimeFault
span_form form text = ok_or (option_map form (whole_seconds text)) BadTime

-- a local date and time, from which a form is made
abbrev pub local_form : (Local → Form) → List ℕ → Result Form TimeFault
local_form form text = ok_or (option_map form (local_of text)) BadTime

-- the form of a text without a word at its end that says what the rest is
abbrev pub plain_by : List ℕ → Option ℤ → Result Form TimeFault
plain_by text (Some second) = since_1970 second
plain_by text None = local_form OfClock text

-- the form of a text that ends with a word: `ago` follows a time span, and `UTC` a date and time
abbrev pub worded_by : List ℕ → Option (List ℕ × List ℕ) → Result Form TimeFault
worded_by text None = plain_by text (timestamp_of text)
worded_by text (Some parts) =
    if str_eq_ignore_ascii_case parts.1 (codes "ago") then span_form Ago parts.0
    else (if str_eq_ignore_ascii_case parts.1 (codes "utc") then local_form OfUtc parts.0 else plain_by text (timestamp_of text))

-- the form of a text by its last word
unfoldable pub worded : List ℕ → Result Form TimeFault
worded text = worded_by text (cut_last_word text)

-- the form of a text by its first character
unfoldable pub marked : List ℕ → Result Form TimeFault
marked [] = Err BadTime
marked (b ∷ bs) =
    if b == byte "@" then counted bs
    else (if b == byte "+" then span_form Ahead bs
    else (if b == byte "-" then span_form Back bs
    else worded (b ∷ bs)))

-- the form of a text without blanks at its ends
abbrev pub form_of_trimmed : List ℕ → Result Form TimeFault
form_of_trimmed text = if str_eq_ignore_ascii_case text (codes "now") then Ok Now else marked text

-- the form of a text; blanks at its ends don't count
unfoldable pub form_of : List ℕ → Result Form TimeFault
form_of text = form_of_trimmed (trimmed text)
