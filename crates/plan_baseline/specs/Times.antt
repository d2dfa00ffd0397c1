-- The times in the text of an agenda.
use Rattle.std.specs.Prelude.{◌≡◌, ℕ, ◌+◌, ◌-◌, ◌/◌, ◌%◌, ◌<◌, ◌≤◌, List, ◌++◌, codes, take, drop, ℤ, pos, ◌+ℤ◌, nat_abs, Option, None, Some, ◌⊎◌}
use Rattle.plan_sets.specs.Limits.{end_second, seconds_a_day}
use Rattle.plan_sets.specs.Moment.{moment_text_of, two_digits}
use Rattle.plan_write.specs.LocalTimes.{date_time, offset_text}

-- the text is that of a second by some clock: what that shows, and its offset from UTC, which is below 100 hours (agenda)
pub record IsLocal (text : List ℕ) (second : ℕ) : Type 0 where
  pub shown : ℕ
  pub offset : ℤ
  pub years : shown ≤ end_second
  pub near : nat_abs offset < 360000
  pub text_is : text ≡ date_time shown ++ offset_text offset
  pub shown_is : pos shown ≡ pos second +ℤ offset

-- the text is that of a second of the planner's years, in UTC or by some clock (agenda)
abbrev pub IsTimeOf : (text : List ℕ) → (second : ℕ) → Type 0
IsTimeOf text second = (second ≤ end_second) × ((text ≡ moment_text_of second) ⊎ IsLocal text second)

-- what is read of a text: the second whose text it is, or nothing if it is that of none
abbrev pub IsTimeRead : (text : List ℕ) → Option ℕ → Type 0
IsTimeRead text None = (second : ℕ) → ¬ IsTimeOf text second
IsTimeRead text (Some second) = IsTimeOf text second

-- ---- the time of the line before

-- the time of day that is so many seconds after midnight (RFC 3339, partial-time)
abbrev pub clock_text : ℕ → List ℕ
clock_text clock =
    two_digits (clock / 3600) ++ (codes ":" ++ (two_digits (clock / 60 % 60) ++ (codes ":" ++ two_digits (clock % 60))))

-- so many seconds, if they are fewer than those of a day, are those from midnight to the time of day in a text
abbrev pub HasClock : (text : List ℕ) → (clock : ℕ) → Type 0
HasClock text clock = clock < seconds_a_day → take 8 (drop 11 text) ≡ clock_text clock

-- a text has a later time of day than that of a second, and is the text of a second that is later by as much
abbrev pub IsLater : (second clock : ℕ) → (text : List ℕ) → (later : ℕ) → Type 0
IsLater second clock text later = (clock ≤ later) × HasClock text later × IsTimeOf text (second + (later - clock))
