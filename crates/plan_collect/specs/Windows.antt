-- The agenda of windows: a job may start later than at the times of its rule, by up to its delay (systemd.timer(5),
-- `RandomizedDelaySec=`, `AccuracySec=`). The window of a start is from that time to the latest one, both included.
use Rattle.std.specs.Prelude.{◌≡◌, ℕ, ◌+◌, ◌-◌, ◌≤◌, Bool, false, ◌&&◌, ◌==◌, nat_le, nat_lt, min, if◌then◌else◌, List, [], ◌∷◌, count_by, map, slice_get, Option, None, Some, refl}
use Rattle.std.specs.Coded.{Coded, code_by, coded×, coded_ℕ}
use Rattle.std.specs.List.{flat_map, range_with_len}
use Rattle.plan_sets.specs.Limits.{end_second}
use Rattle.plan_match.specs.contracts.rule.Rule.{the_row}
use Rattle.plan_match.specs.declared.rule.Rule.{Rule}
use Rattle.plan_next.specs.Span.{Bounds}
use Rattle.plan_next.specs.Starts.{is_start}
use Rattle.plan_rules.specs.Delays.{nominal}
use Rattle.plan_rules.specs.Job.{JobParts}
use Rattle.plan_collect.specs.Agenda.{Planned, agenda, rules_of}

-- when a job may start: at the times of its rule, and up to this many seconds later
pub record Timing : Type 0 where
  pub rule : Rule
  pub delay : ℕ

-- a timing is stored as the pair of these
abbrev pub timing_code : Coded Timing
timing_code =
    code_by (Rule × ℕ) (coded× the_row.coded coded_ℕ) (λ timing. (timing.rule, timing.delay))
    (λ t. record { rule = t.0; delay = t.1 }) (λ _. refl)

-- the timing of a job
abbrev pub timing_of : JobParts → Timing
timing_of job = record { rule = job.rule; delay = job.delay }

-- the timings of jobs: the timing at place j is that of the job with number j
abbrev pub timings_of : List JobParts → List Timing
timings_of jobs = map timing_of jobs

-- the latest start for a time of the rule, at most the end of the planner's years (agenda)
abbrev pub latest_start : (delay second : ℕ) → ℕ
latest_start delay second = min (second + delay) end_second

-- the window of a start at `second` meets a span that isn't empty: it opens before the span ends, and doesn't close before the
-- span starts (agenda)
abbrev pub meets : Bounds → (delay second : ℕ) → Bool
meets span delay second = nat_lt span.since span.upto && (nat_lt second span.upto && nat_le span.since (second + delay))

-- the second from which on a job's windows meet the span: before its start if the job has a delay and the span isn't empty
abbrev pub first_second : Bounds → (delay : ℕ) → ℕ
first_second span delay = if nat_lt span.since span.upto then span.since - delay else span.since

-- the entries of one second: the jobs whose window opens then and meets the span, ascending; the first timing is that of the
-- job with number `job`
abbrev pub windows_from : (job : ℕ) → List Timing → Bounds → (second : ℕ) → List (ℕ × ℕ)
windows_from job [] span second = []
windows_from job (timing ∷ timings) span second =
    if is_start timing.rule second && meets span timing.delay second
    then (second, job) ∷ windows_from (job + 1) timings span second
    else windows_from (job + 1) timings span second

-- the agenda of windows: for each second before the span's end, ascending, each job whose window opens then and meets the
-- span, ascending
unfoldable pub agenda_of_windows : List Timing → Bounds → List (ℕ × ℕ)
agenda_of_windows timings span = flat_map (windows_from 0 timings span) (range_with_len 0 span.upto)

-- the agenda of windows over a span, with the span
abbrev pub planned_windows : List Timing → Bounds → Planned
planned_windows timings span = record { span = span; entries = agenda_of_windows timings span }

-- the window of a job's start at `second` meets the span, if there is such a job
abbrev pub has_window : Option JobParts → Bounds → (second : ℕ) → Bool
has_window None span second = false
has_window (Some job) span second = is_start job.rule second && meets span job.delay second

-- each start of a job whose window meets the span is an entry once, and there are no other entries
abbrev pub HasEachWindowOnce : Type 0
HasEachWindowOnce = (jobs : List JobParts) (span : Bounds) (second number : ℕ)
    → count_by (λ entry. entry.0 == second && entry.1 == number) (agenda_of_windows (timings_of jobs) span)
    ≡ (if has_window (slice_get jobs number) span second then 1 else 0)

-- where all delays are 0, the agenda of windows is the agenda
abbrev pub WithoutDelaysIsAgenda : Type 0
WithoutDelaysIsAgenda = (jobs : List JobParts) (span : Bounds) → span.since ≤ span.upto
    → agenda_of_windows (timings_of (map nominal jobs)) span ≡ agenda (rules_of jobs) span
