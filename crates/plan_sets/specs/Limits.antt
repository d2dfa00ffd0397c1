-- The limits of years, seconds and sets, each in one place.
use Rattle.std.specs.Prelude.{ℕ}

-- the first supported year (agenda)
abbrev pub first_year : ℕ
first_year = 1970

-- the last supported year (agenda)
abbrev pub last_year : ℕ
last_year = 2999

-- the first second after the last year: 3000-01-01T00:00:00Z, counted from 1970-01-01T00:00:00Z
abbrev pub end_second : ℕ
end_second = 32_503_680_000

-- the number of seconds in a day, none of them a leap second (POSIX, "Seconds Since the Epoch")
abbrev pub seconds_a_day : ℕ
seconds_a_day = 86_400

-- the span of a value set: how many numbers, from its base on, can be members (agenda)
abbrev pub set_span : ℕ
set_span = 1152
