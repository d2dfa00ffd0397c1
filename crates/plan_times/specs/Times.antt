-- What the text of a time means, for a clock.
use Rattle.std.specs.Prelude.{◌≡◌, ℕ, ◌+◌, ◌-◌, ◌*◌, Bool, true, false, nat_lt, nat_le, if◌then◌else◌, List, [], Result, Ok, Err}
use Rattle.plan_clock.specs.declared.row.Change.{Change}
use Rattle.plan_sets.specs.Limits.{end_second, seconds_a_day}
use Rattle.plan_times.specs.Days.{day_meant, days_to_next}
use Rattle.plan_times.specs.LocalTimes.{day_at, IsSecondOf}
use Rattle.plan_times.specs.declared.fault.TimeFault.{TimeFault}
use Rattle.plan_times.specs.declared.fault.TimeFault.TheVariants.{OutOfYears}
use Rattle.plan_times.specs.declared.local_text.Local.{Local}
use Rattle.plan_times.specs.declared.form.Form.{Form}
use Rattle.plan_times.specs.declared.form.Form.TheVariants.{Now, Second, Ahead, Back, Ago, OfClock, OfUtc}

-- a second in the planner's years, their end included (agenda)
abbrev pub in_years : ℕ → Result ℕ TimeFault
in_years n = if nat_le n end_second then Ok n else Err OutOfYears

-- so many seconds before a second, if that is not before 1970
abbrev pub before : ℕ → ℕ → Result ℕ TimeFault
before n span = if nat_le span n then Ok (n - span) else Err OutOfYears

-- the local time of a day and a time of day
abbrev pub local_time : ℕ → ℕ → ℕ
local_time day time = day * seconds_a_day + time

-- whether a result is a second after another
abbrev pub is_after : ℕ → Result ℕ TimeFault → Bool
is_after n (Ok second) = nat_lt n second
is_after n (Err fault) = false

-- the first of two times, if it counts, or else one of which P holds
abbrev pub IsFirstOr : Bool → Result ℕ TimeFault → Type 0 → Result ℕ TimeFault → Type 0
IsFirstOr true first P result = result ≡ first
IsFirstOr false first P result = P

-- a local date and time that a span starts at: today is the local date of now, and days are counted from it; of two seconds
-- that show the time, the first (agenda)
abbrev pub IsLocalSince : List Change → ℕ → Local → Result ℕ TimeFault → Type 0
IsLocalSince clock now local result =
    let today = day_at clock now in
    IsSecondOf false clock (local_time (day_meant today today local.day) local.time) result

-- a local date and time that a span ends at, which starts at since: today is the local date of now, and days are counted from
-- that of since; of two seconds that show the time, the last; if a weekday or a time without a date isn't after since, the
-- next one counts (agenda)
abbrev pub IsLocalUntil : List Change → ℕ → ℕ → Local → Result ℕ TimeFault → Type 0
IsLocalUntil clock since now local result =
    let day = day_meant (day_at clock now) (day_at clock since) local.day in
    (first : Result ℕ TimeFault) × IsSecondOf true clock (local_time day local.time) first
    × IsFirstOr (is_after since first) first
    (IsSecondOf true clock (local_time (day + days_to_next local.day) local.time) result) result

-- the time of a form that a span starts at (systemd.time(7))
abbrev pub IsFormSince : List Change → ℕ → Form → Result ℕ TimeFault → Type 0
IsFormSince clock now Now result = result ≡ Ok now
IsFormSince clock now (Second n) result = result ≡ in_years n
IsFormSince clock now (Ahead span) result = result ≡ in_years (now + span)
IsFormSince clock now (Back span) result = result ≡ before now span
IsFormSince clock now (Ago span) result = result ≡ before now span
IsFormSince clock now (OfClock local) result = IsLocalSince clock now local result
IsFormSince clock now (OfUtc local) result = IsLocalSince [] now local result

-- the time of a form that a span ends at: time spans count from since, but for `ago` (agenda)
abbrev pub IsFormUntil : List Change → ℕ → ℕ → Form → Result ℕ TimeFault → Type 0
IsFormUntil clock since now Now result = result ≡ Ok now
IsFormUntil clock since now (Second n) result = result ≡ in_years n
IsFormUntil clock since now (Ahead span) result = result ≡ in_years (since + span)
IsFormUntil clock since now (Back span) result = result ≡ before since span
IsFormUntil clock since now (Ago span) result = result ≡ before now span
IsFormUntil clock since now (OfClock local) result = IsLocalUntil clock since now local result
IsFormUntil clock since now (OfUtc local) result = IsLocalUntil [] since now local result

-- the time of a text that a span starts at, or the error of the text
abbrev pub IsSince : List Change → ℕ → Result Form TimeFault → Result ℕ TimeFault → Type 0
IsSince clock now (Ok form) result = IsFormSince clock now form result
IsSince clock now (Err fault) result = result ≡ Err fault

-- the time of a text that a span ends at, or the error of the text
abbrev pub IsUntil : List Change → ℕ → ℕ → Result Form TimeFault → Result ℕ TimeFault → Type 0
IsUntil clock since now (Ok form) result = IsFormUntil clock since now form result
IsUntil clock since now (Err fault) result = result ≡ Err fault
