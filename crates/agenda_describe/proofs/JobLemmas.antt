-- There is a job with each number below that of all jobs.
use Rattle.std.proofs.Common.{◌≡◌, ℕ, zero, suc, ◌<◌, List, [], ◌∷◌, Option, None, length, arith}
use Rattle.std.specs.Prelude.{slice_get}
use Rattle.plan_rules.specs.Job.{JobParts}

pub job_there : (jobs : List JobParts) (n : ℕ) → None ≡ slice_get jobs n → n < length jobs → ⊥
job_there [] n none lt = omega arith
job_there (job ∷ jobs) zero none lt = cc
job_there (job ∷ jobs) (suc n) none lt = job_there jobs n none (omega arith)
