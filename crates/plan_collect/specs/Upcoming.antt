-- When each job starts next (agenda).
use Rattle.std.specs.Prelude.{ℕ, ◌+◌, List, [], ◌∷◌, slice_get, unwrap_or, IsPermutation}
use Rattle.std.specs.List.Sorted.{IsSorted}
use Rattle.std.specs.Ordering.{nat_cmp, ordering_then}
use Rattle.plan_sets.specs.Limits.{end_second}
use Rattle.plan_match.specs.declared.rule.Rule.{Rule}
use Rattle.plan_next.specs.Starts.{starts}
use Rattle.plan_rules.specs.Job.{JobParts}

-- the first start of a rule later than a second, or the end of all years if it has none
abbrev pub next_or_end : Rule → (after : ℕ) → ℕ
next_or_end rule after = unwrap_or (slice_get (starts rule (after + 1) end_second) 0) end_second

-- the next start and the number of each job; the first job has the number `job`
abbrev pub nexts_from : (job after : ℕ) → List JobParts → List (ℕ × ℕ)
nexts_from job after [] = []
nexts_from job after (first ∷ jobs) = (next_or_end first.rule after, job) ∷ nexts_from (job + 1) after jobs

-- these are the next starts of all jobs, each once, by time and then by job. So jobs without a further start
-- come last
abbrev pub AreUpcoming : List JobParts → (after : ℕ) → List (ℕ × ℕ) → Type 0
AreUpcoming jobs after nexts =
    IsPermutation (nexts_from 0 after jobs) nexts × IsSorted (λ x y. ordering_then (nat_cmp x.0 y.0) (nat_cmp x.1 y.1)) nexts
