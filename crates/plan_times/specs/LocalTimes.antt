-- When a clock shows a local time. A local time is the number of seconds from the start of day 0 to it.
use Rattle.std.specs.Prelude.{◌≡◌, ℕ, ◌+◌, ◌-◌, ◌*◌, ◌/◌, ◌<◌, Bool, true, false, List, Option, Some, None, Result, ok_or, pos, ◌+ℤ◌}
use Rattle.std.specs.Option.{option_or}
use Rattle.plan_clock.specs.declared.row.Change.{Change}
use Rattle.plan_clock.specs.Rows.{natural, offset_of}
use Rattle.plan_sets.specs.Limits.{end_second, seconds_a_day}
use Rattle.plan_times.specs.Days.{first_day}
use Rattle.plan_times.specs.declared.fault.TimeFault.{TimeFault}
use Rattle.plan_times.specs.declared.fault.TimeFault.TheVariants.{OutOfYears}

-- the local time 1970-01-01T00:00:00
abbrev pub first_local : ℕ
first_local = first_day * seconds_a_day

-- the local time that a clock shows at a second
abbrev pub local_at : List Change → ℕ → ℕ
local_at clock n = natural (pos (n + first_local) +ℤ offset_of clock n)

-- the local date that a clock shows at a second
abbrev pub day_at : List Change → ℕ → ℕ
day_at clock n = local_at clock n / seconds_a_day

-- at this second the clock shows the local time
abbrev pub Shows : List Change → ℕ → ℕ → Type 0
Shows clock local n = local_at clock n ≡ local

-- at this second the clock is put forward over the local time, which it skips
abbrev pub Skips : List Change → ℕ → ℕ → Type 0
Skips clock local n = (0 < n) × (local_at clock (n - 1) < local) × (local < local_at clock n)

-- the answer is the first number before an end that has a property, or the last; None if no number has it
abbrev pub IsPicked : Bool → (ℕ → Type 0) → ℕ → Option ℕ → Type 0
IsPicked latest P end None = (n : ℕ) → n < end → ¬ (P n)
IsPicked true P end (Some n) = (n < end) × P n × ((k : ℕ) → n < k → k < end → ¬ (P k))
IsPicked false P end (Some n) = (n < end) × P n × ((k : ℕ) → k < n → ¬ (P k))

-- of two answers of which the second is later, the first answer that there is, or the last
abbrev pub picked : Bool → Option ℕ → Option ℕ → Option ℕ
picked true held found = option_or found held
picked false held found = option_or held found

-- a second at which a local time is shown counts before one at which it is skipped; without either, the local time is not in
-- the planner's years
abbrev pub second_or_fault : Option ℕ → Option ℕ → Result ℕ TimeFault
second_or_fault shown skipped = ok_or (option_or shown skipped) OutOfYears

-- the second of a local time by a clock: the first second that shows it, or the last; of one that is skipped, the second at
-- which the clock is put forward (agenda)
abbrev pub IsSecondOf : Bool → List Change → ℕ → Result ℕ TimeFault → Type 0
IsSecondOf latest clock local result =
    (shown : Option ℕ) × (skipped : Option ℕ) × IsPicked latest (Shows clock local) (end_second + 1) shown
    × IsPicked latest (Skips clock local) (end_second + 1) skipped
    × (result ≡ second_or_fault shown skipped)
