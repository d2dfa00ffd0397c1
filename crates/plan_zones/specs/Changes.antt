-- The changes of a zone up to a second, found one year at a time.
use Rattle.std.specs.Prelude.{◌≡◌, ℕ, ◌-◌, ◌*◌, ◌<◌, ◌++◌, ◌∷◌, [], ◌==◌, ◌&&◌, not, Bool, ℤ, pos, List, get_or, length, if◌then◌else◌}
use Rattle.std.specs.Ordering.{int_eq}
use Rattle.jiff_core.specs.Calendar.{day_count}
use Rattle.jiff_core.specs.Timestamp.{nanos_of_seconds}
use Rattle.jiff_tz.specs.declared.tzif.Tzif.{Tzif}
use Rattle.jiff_tz.specs.Tzif.{offset_at}
use Rattle.jiff_tz.specs.Year.{year_of_nanos}
use Rattle.plan_clock.specs.declared.row.Change.{Change}
use Rattle.plan_clock.specs.Rows.{no_change, offset_of, AreChanges}
use Rattle.plan_sets.specs.Limits.{seconds_a_day}

-- the zone's offset from UTC at a second, as jiff gives it
abbrev pub zone_offset : Tzif → ℕ → ℤ
zone_offset zone second = (offset_at zone (nanos_of_seconds (pos second))).seconds

-- the year of a second, in UTC
abbrev pub year_at : ℕ → ℤ
year_at second = year_of_nanos (nanos_of_seconds (pos second))

-- the first second of a year from 1970 on; 4,371,953 is jiff's number of the day 1970-01-01
abbrev pub year_start : ℕ → ℕ
year_start year = (day_count (pos year) 1 1 - 4_371_953) * seconds_a_day

-- the change at this position of the list
abbrev pub change_at : List Change → ℕ → Change
change_at changes place = get_or changes place no_change

-- whether there is a last change, and it has this offset
abbrev pub ends_with_offset : List Change → ℤ → Bool
ends_with_offset changes offset = not (length changes == 0) && int_eq (change_at changes (length changes - 1)).offset offset

-- the changes with one more, unless that one has the same offset as the last
abbrev pub added : List Change → Change → List Change
added changes change = if ends_with_offset changes change.offset then changes else changes ++ change ∷ []

-- these are changes of a clock, all of them before `end`, and at each second before `end` they give the zone's offset
pub record Covers (zone : Tzif) (changes : List Change) (end : ℕ) : Type 0 where
  pub some : 0 < end → 0 < length changes
  pub are : AreChanges changes
  pub before : (place : ℕ) → place < length changes → (change_at changes place).second < end
  pub same : (second : ℕ) → second < end → offset_of changes second ≡ zone_offset zone second
