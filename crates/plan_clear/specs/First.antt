-- The first entry of an agenda of windows, in which a start of a cron job counts as the whole minute (agenda).
use Rattle.std.specs.Prelude.{◌≡◌, ◌↔◌, ◌<◌, ◌≤◌, ◌+◌, ℕ, true, false, max, nat_le, if◌then◌else◌, List, map, Option, None, Some, slice_get}
use Rattle.plan_match.specs.declared.rule.Rule.{Rule}
use Rattle.plan_match.specs.declared.rule.Rule.TheVariants.{Cron, Never, Events}
use Rattle.plan_next.specs.Span.{Bounds}
use Rattle.plan_next.specs.Starts.{is_start}
use Rattle.plan_rules.specs.Job.{JobParts}
use Rattle.plan_collect.specs.Windows.{agenda_of_windows, has_window, timings_of}

-- how much later than at a time of its rule a job starts at the latest, whatever its delay is: the cron daemon wakes once a minute,
-- and may be late in it (cron(8))
abbrev pub lateness : Rule → ℕ
lateness (Cron rule) = 59
lateness Never = 0
lateness (Events events) = 0

-- the job, with the whole minute as the window of each of its starts if it is a cron job, or its delay if that is longer (agenda)
abbrev pub whole_minute : JobParts → JobParts
whole_minute job = record job { delay = max job.delay (lateness job.rule) }

abbrev pub whole_minutes : List JobParts → List JobParts
whole_minutes jobs = map whole_minute jobs

-- the first entry of the agenda of jobs, with whole minutes
abbrev pub first_of : List JobParts → Bounds → Option (ℕ × ℕ)
first_of jobs span = slice_get (agenda_of_windows (timings_of (whole_minutes jobs)) span) 0

-- an entry doesn't come after another: its second isn't later, and at the same second the number of its job isn't higher (agenda)
abbrev pub IsNotAfter : (entry other : ℕ × ℕ) → Type 0
IsNotAfter entry other = (entry.0 ≤ other.0) × (entry.0 ≡ other.0 → entry.1 ≤ other.1)

-- no job has a start whose window meets the span: the span is clear
abbrev pub IsClear : List JobParts → Bounds → Type 0
IsClear jobs span = (second number : ℕ) → has_window (slice_get jobs number) span second ≡ false

-- a second and the number of a job are those of a start whose window meets the span, and no such start comes before it
abbrev pub IsLeastWindow : List JobParts → Bounds → (entry : ℕ × ℕ) → Type 0
IsLeastWindow jobs span entry =
    (has_window (slice_get jobs entry.1) span entry.0 ≡ true)
    × ((second number : ℕ) → has_window (slice_get jobs number) span second ≡ true → IsNotAfter entry (second, number))

-- the first entry is that of a start whose window meets the span, and no such start comes before it
abbrev pub FirstIsLeast : Type 0
FirstIsLeast = (jobs : List JobParts) (span : Bounds) (first : ℕ × ℕ)
    → first_of jobs span ≡ Some first → IsLeastWindow (whole_minutes jobs) span first

-- there is no first entry exactly if the span is clear
abbrev pub NoneWithoutWindows : Type 0
NoneWithoutWindows = (jobs : List JobParts) (span : Bounds) → (first_of jobs span ≡ None) ↔ IsClear (whole_minutes jobs) span

-- in a clear span no job may start: at no second of the span from one of its starts to the end of that start's window
abbrev pub NothingStartsIfClear : Type 0
NothingStartsIfClear = (jobs : List JobParts) (span : Bounds) (number start second : ℕ) (job : JobParts)
    → first_of jobs span ≡ None → slice_get jobs number ≡ Some job → is_start job.rule start ≡ true
    → start ≤ second → second ≤ start + (whole_minute job).delay → span.since ≤ second → second < span.upto → ⊥

-- the earlier one of the first entry so far and of the entry that a job with a higher number has at a second; each may be missing
abbrev pub earlier_of : (first : Option (ℕ × ℕ)) (second : Option ℕ) (number : ℕ) → Option (ℕ × ℕ)
earlier_of first None number = first
earlier_of None (Some second) number = Some (second, number)
earlier_of (Some first) (Some second) number = if nat_le first.0 second then Some first else Some (second, number)
