-- A start in one number (agenda).
use Rattle.std.specs.Prelude.{◌≡◌, ℕ, ◌+◌, ◌*◌, ◌/◌, ◌%◌}
use Rattle.std.proofs.Common.{arith}

-- the numbers of jobs are below this
abbrev pub job_numbers : ℕ
job_numbers = 1048576

-- the start of a number: its second is the upper part, and its job's number the lower
abbrev pub start_of : ℕ → ℕ × ℕ
start_of number = (number / job_numbers, number % job_numbers)

-- the number of a start
abbrev pub packed : ℕ × ℕ → ℕ
packed start = start.0 * job_numbers + start.1

-- the number of a number's start is that number
pub unpacked_back : (number : ℕ) → packed (start_of number) ≡ number
unpacked_back number = omega arith
