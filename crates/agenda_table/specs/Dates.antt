-- The dates on which the times of a table have their offset, since the clock is put back between two of them (agenda).
use Rattle.std.specs.Prelude.{◌≡◌, ℕ, ◌+◌, ◌/◌, ◌==◌, ◌&&◌, nat_le, nat_lt, Bool, true, false, List, [], ◌∷◌, slice_get, Option, None, Some, is_some, filter, IsTrue}
use Rattle.std.specs.List.{flat_map, list_all, list_any}
use Rattle.plan_clock.specs.declared.row.Change.{Change}
use Rattle.plan_collect.specs.Windows.{latest_start}
use Rattle.plan_sets.specs.Limits.{end_second}
use Rattle.plan_write.specs.Upcoming.{start_or_none}
use Rattle.agenda_table.specs.Rows.{JobTexts, has_date}
use Rattle.agenda_table.specs.Times.{face}

-- whether a time is shown as a local one, and not in UTC
abbrev pub is_local : List Change → ℕ → Bool
is_local clock n = is_some (face clock n).offset

-- whether the clock is put back between two times, by what is shown at them: both have this date, and the clock moved on by
-- less than the time did. So the later one has the smaller offset
abbrev pub is_put_back_between : (date n shown_n m shown_m : ℕ) → Bool
is_put_back_between date n shown_n m shown_m =
    (shown_n / 86400 == date) && ((shown_m / 86400 == date) && (nat_lt n m && nat_lt (shown_m + n) (shown_n + m)))

abbrev pub is_put_back : (shown : ℕ → ℕ) → (date n m : ℕ) → Bool
is_put_back shown date n m = is_put_back_between date n (shown n) m (shown m)

-- whether a clock that shows this is put back between two of these times, which have this date
abbrev pub falls_within : (shown : ℕ → ℕ) → (times : List ℕ) → (date : ℕ) → Bool
falls_within shown times date = list_any (λ n. list_any (is_put_back shown date n) times) times

-- what a clock shows: the second of UTC that has this date and time
abbrev pub shown_by : List Change → ℕ → ℕ
shown_by clock n = (face clock n).shown

-- whether the times of this date have their offset: a clock is put back between two of the local times of this date
abbrev pub is_put_back_on : List Change → (times : List ℕ) → (date : ℕ) → Bool
is_put_back_on clock times date = falls_within (shown_by clock) (filter (is_local clock) times) date

-- these dates are those on which these times have their offset
abbrev pub AreDatesOf : List Change → (times dates : List ℕ) → Type 0
AreDatesOf clock times dates = (date : ℕ) → has_date dates date ≡ is_put_back_on clock times date

-- these times are in the planner's years, or at their end
abbrev pub AreInYears : List ℕ → Type 0
AreInYears times = IsTrue (list_all (λ n. nat_le n end_second) times)

-- ---- the times of tables

-- the times in a row of a job: its start, and its latest start if delays count
abbrev pub times_of_job : (delays : Bool) → (at : Option ℕ) → Option JobTexts → List ℕ
times_of_job delays None job = []
times_of_job delays (Some n) None = []
times_of_job false (Some n) (Some job) = n ∷ []
times_of_job true (Some n) (Some job) = n ∷ latest_start job.delay n ∷ []

-- the times in the rows of starts of jobs
abbrev pub job_times : (delays : Bool) → (starts : List (ℕ × ℕ)) → List JobTexts → List ℕ
job_times delays starts jobs =
    flat_map (λ start. times_of_job delays (start_or_none start.0) (slice_get jobs start.1)) starts

-- the times in the rows of gaps
abbrev pub gap_times : (gaps : List (ℕ × ℕ)) → List ℕ
gap_times gaps = flat_map (λ gap. gap.0 ∷ gap.1 ∷ []) gaps
