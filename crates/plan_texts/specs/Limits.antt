-- The limits of texts.
use Rattle.std.specs.Prelude.{ℕ}

-- a number has at most 4 digits (agenda)
abbrev pub most_digits : ℕ
most_digits = 4

-- a text of lines has at most 1,048,576 bytes (agenda)
abbrev pub most_bytes : ℕ
most_bytes = 1048576
