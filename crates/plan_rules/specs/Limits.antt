-- The limits of jobs and of timers.
use Rattle.std.specs.Prelude.{ℕ}

-- the maximum number of jobs is 1,000 (agenda)
abbrev pub most_jobs : ℕ
most_jobs = 1000

-- the list of a timer's events has at most 64 (agenda)
abbrev pub most_events : ℕ
most_events = 64

-- a timer's name has at least 7 bytes: `.timer` and one before it (agenda)
abbrev pub least_name : ℕ
least_name = 7

-- a timer's name has at most 255 bytes (agenda)
abbrev pub most_name : ℕ
most_name = 255
