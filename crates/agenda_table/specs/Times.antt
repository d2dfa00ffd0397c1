-- The times in the cells of a table (agenda).
use Rattle.std.specs.Prelude.{ℕ, ◌+◌, ◌-◌, ◌/◌, ◌%◌, ◌==◌, nat_le, nat_lt, min, Bool, false, if◌then◌else◌, List, [], ◌++◌, codes, decimal, length, take, drop, Option, None, Some, ℤ, pos, negsuc}
use Rattle.plan_clock.specs.Rows.{natural, row_at, shown}
use Rattle.plan_clock.specs.declared.row.Change.{Change}
use Rattle.plan_clock.specs.declared.row.Row.{Row}
use Rattle.plan_sets.specs.Limits.{end_second, seconds_a_day}
use Rattle.plan_sets.specs.Moment.{moment_text_of, two_digits}
use Rattle.agenda_table.specs.declared.face.Face.{Face}

-- ---- what a clock shows

-- whether a time is in the planner's years, or at their end
abbrev pub is_in_years : ℤ → Bool
is_in_years (pos n) = nat_le n end_second
is_in_years (negsuc n) = false

-- what the clock of a row shows at second n: the second of UTC that has this date and time, and the offset. A time outside the
-- planner's years stays in UTC, and has no offset
abbrev pub face_by_row : Row → ℕ → Face
face_by_row row n =
    if is_in_years (shown row n)
    then record { shown = natural (shown row n); offset = Some row.offset }
    else record { shown = n; offset = None }

-- what a clock shows at second n; the end of the planner's years has the offset of the second before it
unfoldable pub face : List Change → ℕ → Face
face changes n = face_by_row (row_at changes (min n (end_second - 1))) n

-- the number of the date that is shown, from 0 for 1970-01-01
abbrev pub date_of : Face → ℕ
date_of face = face.shown / seconds_a_day

-- ---- the texts of times

-- a weekday, from 0 for Monday
abbrev pub weekday_text : ℕ → List ℕ
weekday_text day =
    if day == 0 then codes "Mon " else
    if day == 1 then codes "Tue " else
    if day == 2 then codes "Wed " else
    if day == 3 then codes "Thu " else
    if day == 4 then codes "Fri " else
    if day == 5 then codes "Sat " else codes "Sun "

-- a date with its weekday; 1970-01-01 was a Thursday
abbrev pub date_text : ℕ → List ℕ
date_text second = weekday_text ((second / seconds_a_day + 3) % 7) ++ (take 10 (moment_text_of second) ++ codes " ")

-- an offset from UTC, its hours and minutes, and its seconds if there are any (RFC 3339, time-numoffset)
abbrev pub distance_text : ℕ → List ℕ
distance_text distance =
    two_digits (distance / 3600) ++ (codes ":" ++ (two_digits (distance / 60 % 60)
    ++ (if distance % 60 == 0 then [] else codes ":" ++ two_digits (distance % 60))))

abbrev pub offset_text : ℤ → List ℕ
offset_text (pos distance) = codes "+" ++ distance_text distance
offset_text (negsuc distance) = codes "-" ++ distance_text (distance + 1)

-- what follows a time of day: the letter of UTC for a time that stays in UTC, and the offset on a date that is marked
abbrev pub zone_text : (marked : Bool) → (offset : Option ℤ) → List ℕ
zone_text marked None = codes "Z"
zone_text marked (Some offset) = if marked then offset_text offset else []

-- the time of day
abbrev pub clock_text : (marked : Bool) → Face → List ℕ
clock_text marked face = take 8 (drop 11 (moment_text_of face.shown)) ++ zone_text marked face.offset

-- the date and the time of day
abbrev pub time_text : (marked : Bool) → Face → List ℕ
time_text marked face = date_text face.shown ++ clock_text marked face

-- ---- the texts of lengths

-- a number of some unit, and a number of a smaller unit if that isn't 0
abbrev pub two_units : (first : ℕ) → (unit : List ℕ) → (second : ℕ) → (smaller : List ℕ) → List ℕ
two_units first unit second smaller =
    decimal first ++ (unit ++ (if second == 0 then [] else codes " " ++ (decimal second ++ smaller)))

-- how far away a time is, rounded down, in at most two units
abbrev pub distance_in_units : ℕ → List ℕ
distance_in_units seconds =
    if nat_lt seconds 60 then decimal seconds ++ codes " s" else
    if nat_lt seconds 3600 then decimal (seconds / 60) ++ codes " min" else
    if nat_lt seconds 86400 then two_units (seconds / 3600) (codes " h") (seconds % 3600 / 60) (codes " min") else
    two_units (seconds / 86400) (codes " d") (seconds % 86400 / 3600) (codes " h")

-- how far away a second is from now
unfoldable pub from_now_text : (now second : ℕ) → List ℕ
from_now_text now second =
    if second == now then codes "now" else
    if nat_lt now second then codes "in " ++ distance_in_units (second - now) else distance_in_units (now - second) ++ codes " ago"

-- a text, and a number of some unit after it, with a blank between the two, unless the number is 0
abbrev pub with_unit : List ℕ → (number : ℕ) → (unit : List ℕ) → List ℕ
with_unit text number unit =
    if number == 0 then text else text ++ ((if length text == 0 then [] else codes " ") ++ (decimal number ++ unit))

-- a length of at least 1 second, in days, hours, minutes and seconds
unfoldable pub length_text : ℕ → List ℕ
length_text seconds =
    with_unit (with_unit (with_unit (with_unit [] (seconds / 86400) (codes " d")) (seconds % 86400 / 3600) (codes " h"))
    (seconds % 3600 / 60) (codes " min")) (seconds % 60) (codes " s")
