-- The text of a week, and its JSON (agenda).
use Rattle.std.specs.Prelude.{ℕ, ◌+◌, ◌*◌, ◌%◌, ◌==◌, nat_lt, Bool, if◌then◌else◌, List, [], ◌∷◌, ◌++◌, codes, decimal, drop, length, map, sum_by, take, Option, None, Some, is_some, slice_index_or}
use Rattle.std.specs.List.{enumerate_from, flat_map, list_any, range_with_len}
use Rattle.std.specs.Str.{byte}
use Rattle.plan_sets.specs.Moment.{moment_text_of}
use Rattle.plan_sets.specs.Limits.{seconds_a_day}
use Rattle.plan_collect.specs.Agenda.{Planned}
use Rattle.plan_next.specs.Span.{Bounds}
use Rattle.plan_rules.specs.declared.NamedZone.{NamedZone}
use Rattle.plan_write.specs.TimeFields.{time_text}
use Rattle.plan_write.specs.declared.formats.Format.{Format}
use Rattle.plan_week.specs.Week.{count_of}
use Rattle.plan_week.specs.declared.day.Day.{Day}

-- ---- dates

-- the date of the day with a number, from 0 for 1970-01-01 (ISO 8601, extended format)
abbrev pub date_text : (number : ℕ) → List ℕ
date_text number = take 10 (moment_text_of (number * seconds_a_day))

-- a weekday, from 0 for Monday
abbrev pub weekday_text : ℕ → List ℕ
weekday_text day =
    if day == 0 then codes "Mon " else
    if day == 1 then codes "Tue " else
    if day == 2 then codes "Wed " else
    if day == 3 then codes "Thu " else
    if day == 4 then codes "Fri " else
    if day == 5 then codes "Sat " else codes "Sun "

-- the name of a day: its weekday and its date; 1970-01-01 was a Thursday
abbrev pub day_name : (number : ℕ) → List ℕ
day_name number = weekday_text ((number + 3) % 7) ++ date_text number

-- ---- rows

-- the mark of an hour: a blank if it isn't in the span, a dot for no start, a digit for 1 to 9 starts, and `#` for 10 or more
abbrev pub mark : Option ℕ → ℕ
mark None = byte " "
mark (Some starts) =
    if starts == 0 then byte "." else
    if nat_lt starts 10 then byte "0" + starts else byte "#"

-- the marks of hours, each after a blank
abbrev pub marks : List (Option ℕ) → List ℕ
marks hours = flat_map (λ hour. byte " " ∷ mark hour ∷ []) hours

-- a number in decimal, after as many blanks as make it 6 characters wide; a longer one has none
abbrev pub aligned : ℕ → List ℕ
aligned number = drop (length (decimal number)) (codes "      ") ++ decimal number

-- what follows the name of a row: the marks of the hours, and their sum
abbrev pub hours_text : List (Option ℕ) → List ℕ
hours_text hours = codes " " ++ (marks hours ++ (codes " " ++ (aligned (sum_by count_of hours) ++ codes "\n")))

-- the row of a day
abbrev pub day_row : Day → List ℕ
day_row day = day_name day.number ++ hours_text day.hours

-- what a day has at an hour
abbrev pub at_hour : (hour : ℕ) → Day → Option ℕ
at_hour hour day = slice_index_or day.hours hour None

-- the sum of an hour of all days
abbrev pub column_sum : (hour : ℕ) → List Day → ℕ
column_sum hour days = sum_by (λ day. count_of (at_hour hour day)) days

-- the starts that all days have at an hour, if the span has that hour of some day
abbrev pub all_at : List Day → (hour : ℕ) → Option ℕ
all_at days hour = if list_any (λ day. is_some (at_hour hour day)) days then Some (column_sum hour days) else None

-- the same for each hour
unfoldable pub all_hours : List Day → List (Option ℕ)
all_hours days = map (all_at days) (range_with_len 0 24)

-- the row of all days
abbrev pub all_row : List Day → List ℕ
all_row days = codes "all days      " ++ hours_text (all_hours days)

-- the head of the table: every third hour, and the sum
unfoldable pub head_text : List ℕ
head_text = codes "                0     3     6     9     12    15    18    21       sum\n"

-- ---- the last line

-- how many starts there are
abbrev pub starts_text : (count : ℕ) → List ℕ
starts_text count = decimal count ++ (if count == 1 then codes " start from " else codes " starts from ")

-- a span, by the clock of a zone if one is given, and otherwise in UTC
abbrev pub span_text : (local : Option NamedZone) → Bounds → List ℕ
span_text local span = time_text local span.since ++ (codes " to " ++ time_text local span.upto)

-- the name of the zone
abbrev pub zone_name : (local : Option NamedZone) → List ℕ
zone_name None = codes "UTC"
zone_name (Some zone) = zone.name

-- the last line: how many starts an agenda has, its span, and the zone
abbrev pub last_line : (local : Option NamedZone) → Planned → List ℕ
last_line local made =
    starts_text (length made.entries) ++ (span_text local made.span ++ ((codes ", " ++ zone_name local) ++ codes "\n"))

-- ---- the table

-- its head, a row for each day, a row for all days, and the last line
abbrev pub table_text : (local : Option NamedZone) → List Day → Planned → List ℕ
table_text local days made = head_text ++ (flat_map day_row days ++ (all_row days ++ last_line local made))

-- ---- JSON

-- the object of an hour of the day with a date (RFC 8259); an hour without starts has none
abbrev pub hour_object : (date : List ℕ) → (hour starts : ℕ) → List ℕ
hour_object date hour starts =
    if starts == 0 then [] else
    codes "{\"day\":\"" ++ (date ++ (codes "\",\"hour\":" ++ (decimal hour
    ++ (codes ",\"starts\":" ++ (decimal starts ++ codes "}\n")))))

-- the objects of the hours of the day with a date
abbrev pub hour_objects : (date : List ℕ) → List (Option ℕ) → List ℕ
hour_objects date hours = flat_map (λ hour. hour_object date hour.0 (count_of hour.1)) (enumerate_from 0 hours)

-- the objects of a day
abbrev pub day_objects : Day → List ℕ
day_objects day = hour_objects (date_text day.number) day.hours

-- ---- both

-- the objects of all days, or the table
abbrev pub week_text : Format → List Day → Planned → List ℕ
week_text format days made = if format.json then flat_map day_objects days else table_text format.local days made
