-- Which days a schedule has in a year, by the two things that years differ in: whether it is a leap year, and the weekday on which it begins.
use Rattle.std.specs.Prelude.{◌≡◌, ℕ, zero, suc, ◌+◌, ◌-◌, ◌%◌, Bool, true, false, ◌&&◌, ◌||◌, ◌==◌, nat_le, nat_lt, if◌then◌else◌, List, get_or, Option, pos}
use Rattle.std.specs.List.{list_any, range_with_len}
use Rattle.plan_sets.specs.Limits.{first_year, last_year}
use Rattle.jiff_core.specs.Calendar.{days_in_year, is_leap_year}
use Rattle.plan_words.specs.Tree as tree
use Rattle.plan_words.specs.Tree.{Values, Schedule}
use Rattle.plan_words.specs.Meaning.{days_have, months_have, some_have}

-- the number of days in a month of such a year (ISO 8601)
abbrev pub month_length : (leap : Bool) → ℕ → ℕ
month_length leap month =
    if month == 2 then (if leap then 29 else 28)
    else (if (month == 4) || (month == 6) || (month == 9) || (month == 11) then 30 else 31)

-- one of the `count` days from `day` on is one of these days; the first of them has this weekday
unfoldable pub some_day_from : tree.Days → (length : ℕ) → (count day weekday : ℕ) → Bool
some_day_from days length zero day weekday = false
some_day_from days length (suc count) day weekday =
    days_have days day (length - day + 1) weekday || some_day_from days length count (day + 1) ((weekday + 1) % 7)

-- a month of that length that begins on this weekday has one of these days
abbrev pub month_has_day : tree.Days → (length weekday : ℕ) → Bool
month_has_day days length weekday = some_day_from days length length 1 weekday

-- a month that begins on this weekday is one of a schedule and has a day of it
abbrev pub is_month_with_day : Schedule → (leap : Bool) → (month weekday : ℕ) → Bool
is_month_with_day s leap month weekday = months_have s.months month && month_has_day s.days (month_length leap month) weekday

-- one of the `count` months from `month` on has a day of the schedule; the first of them begins on this weekday
unfoldable pub some_month_from : Schedule → (leap : Bool) → (count month weekday : ℕ) → Bool
some_month_from s leap zero month weekday = false
some_month_from s leap (suc count) month weekday =
    is_month_with_day s leap month weekday || some_month_from s leap count (month + 1) ((weekday + month_length leap month) % 7)

-- a year that begins on this weekday has a day of the schedule
abbrev pub year_has_day : Schedule → (leap : Bool) → (weekday : ℕ) → Bool
year_has_day s leap weekday = some_month_from s leap 12 1 weekday

-- the number of a kind of years, of which there are 14
abbrev pub kind_of : (leap : Bool) → (weekday : ℕ) → ℕ
kind_of leap weekday = if leap then 7 + weekday else weekday

-- a year of a kind has a day of the schedule
abbrev pub kind_has_day : Schedule → ℕ → Bool
kind_has_day s kind = year_has_day s (nat_le 7 kind) (kind % 7)

-- a year that begins on this weekday is one of a schedule and has a day of it
abbrev pub is_year_with_day : Schedule → (year weekday : ℕ) → Bool
is_year_with_day s year weekday = some_have s.years year && year_has_day s (is_leap_year (pos year)) weekday

-- one of the `count` years from `year` on has a day of the schedule; the first of them begins on this weekday
unfoldable pub some_year_from : Schedule → (count year weekday : ℕ) → Bool
some_year_from s zero year weekday = false
some_year_from s (suc count) year weekday =
    is_year_with_day s year weekday || some_year_from s count (year + 1) ((weekday + days_in_year (pos year)) % 7)

-- one of the supported years has a day of the schedule; 1970 began on a Thursday (agenda)
abbrev pub has_some_day : Schedule → Bool
has_some_day s = some_year_from s (last_year + 1 - first_year) first_year 3

-- no year of a kind that is marked has a day of the schedule
abbrev pub AreTried : Schedule → List Bool → Type 0
AreTried s tried = (kind : ℕ) → get_or tried kind false ≡ true → kind_has_day s kind ≡ false

-- a month is one of these and has fewer days, in a leap year or another
abbrev pub is_short_month : tree.Months → (leap : Bool) → (n month : ℕ) → Bool
is_short_month months leap n month = months_have months month && nat_lt (month_length leap month) n

-- one of the months has fewer days, in a leap year or another
abbrev pub has_short_month : tree.Months → (leap : Bool) → (n : ℕ) → Bool
has_short_month months leap n = list_any (is_short_month months leap n) (range_with_len 1 12)

-- a year counts: a leap year or another
abbrev pub counts : (common leap : Bool) → ℕ → Bool
counts common leap year = if is_leap_year (pos year) then leap else common

-- one of the `count` years from `year` on counts and is one of these years
unfoldable pub has_year_from : Option Values → (common leap : Bool) → (count year : ℕ) → Bool
has_year_from years common leap zero year = false
has_year_from years common leap (suc count) year =
    (counts common leap year && some_have years year) || has_year_from years common leap count (year + 1)

-- one of the supported years that count is one of these years (agenda)
abbrev pub has_year_of : Option Values → (common leap : Bool) → Bool
has_year_of years common leap = has_year_from years common leap (last_year + 1 - first_year) first_year
