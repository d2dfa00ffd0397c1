-- The limits of a plan (agenda).
use Rattle.std.specs.Prelude.{ℕ, Bool, ◌&&◌, nat_le}

-- the maximum limit of an agenda, in entries
abbrev pub most_entries : ℕ
most_entries = 1000000

-- the maximum number of planners
abbrev pub most_planners : ℕ
most_planners = 8

-- the maximum number of starts in a planner's piece
abbrev pub most_starts : ℕ
most_starts = 1024

-- a limit of entries is 1 to 1,000,000
abbrev pub is_limit : ℕ → Bool
is_limit limit = nat_le 1 limit && nat_le limit most_entries

-- there are 1 to 8 planners
abbrev pub is_size : ℕ → Bool
is_size planners = nat_le 1 planners && nat_le planners most_planners
