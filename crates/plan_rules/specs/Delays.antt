-- Jobs whose delays count, and jobs whose delays don't.
use Rattle.std.specs.Prelude.{ℕ, Bool, true, false, List, ◌++◌, drop, map, take}
use Rattle.plan_rules.specs.Job.{JobParts}

-- a job that starts at the times of its rule, without a delay (agenda)
abbrev pub nominal : JobParts → JobParts
nominal job = record job { delay = 0 }

-- the jobs that are planned: with their delays if these count, else without (agenda)
abbrev pub counted : (delays : Bool) → List JobParts → List JobParts
counted true jobs = jobs
counted false jobs = map nominal jobs

-- jobs of which the first `count` were changed
abbrev pub first_changed : (JobParts → JobParts) → ℕ → List JobParts → List JobParts
first_changed change count jobs = map change (take count jobs) ++ drop count jobs
