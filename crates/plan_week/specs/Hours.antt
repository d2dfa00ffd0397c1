-- The hours that a clock shows (agenda).
use Rattle.std.specs.Prelude.{ℕ, ◌/◌, nat_lt, Bool, false, if◌then◌else◌, List, ℤ, pos, negsuc}
use Rattle.plan_clock.specs.Rows.{natural, row_at, shown}
use Rattle.plan_clock.specs.declared.row.Change.{Change}
use Rattle.plan_clock.specs.declared.row.Row.{Row}
use Rattle.plan_sets.specs.Limits.{end_second}

-- whether a time is in the planner's years
abbrev pub is_in_years : ℤ → Bool
is_in_years (pos n) = nat_lt n end_second
is_in_years (negsuc n) = false

-- what the clock of a row shows at second n: the second of UTC that has this date and time; a time outside the planner's years
-- stays in UTC
abbrev pub local_by_row : Row → ℕ → ℕ
local_by_row row n = if is_in_years (shown row n) then natural (shown row n) else n

-- what a clock shows at second n
unfoldable pub local_second : List Change → ℕ → ℕ
local_second clock n = local_by_row (row_at clock n) n

-- the hour that a clock shows at second n, from 0 for the first hour of 1970-01-01
abbrev pub hour_at : List Change → ℕ → ℕ
hour_at clock n = local_second clock n / 3600
