-- How long a thread sleeps while it has nothing to do (agenda).
use Rattle.std.specs.Prelude.{ℕ, ◌*◌, min}

-- the first sleep, in microseconds
abbrev pub first_sleep : ℕ
first_sleep = 60

-- the longest sleep, in microseconds
abbrev pub longest_sleep : ℕ
longest_sleep = 320

-- the sleep after another one, in microseconds: twice as long, up to the longest
abbrev pub next_sleep : ℕ → ℕ
next_sleep sleep = min (sleep * 2) longest_sleep
