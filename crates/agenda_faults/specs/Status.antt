-- The exit statuses of the program (agenda).
use Rattle.std.specs.Prelude.{ℕ}

-- the command was done, or help is printed (agenda)
abbrev pub done_status : ℕ
done_status = 0

-- input, a size, a count or a limit is rejected, or an error in a file is reported (agenda)
abbrev pub rejected_status : ℕ
rejected_status = 1

-- the arguments are invalid (agenda)
abbrev pub usage_status : ℕ
usage_status = 2

-- no planned job may start in a span, but something may start at times that can't be told (agenda)
abbrev pub unknown_status : ℕ
unknown_status = 4

-- an allocation, a device or a file failed, or it isn't known what a planner sent (agenda)
abbrev pub failed_status : ℕ
failed_status = 3
