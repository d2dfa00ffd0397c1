-- What holds for every agenda of windows (agenda).
use Rattle.std.specs.Prelude.{◌≡◌, ℕ, zero, suc, ◌+◌, ◌<◌, ◌≤◌, Bool, true, false, ◌&&◌, nat_lt, nat_le, List, [], ◌∷◌, length, None, slice_get, Result, Ok, Err, IfOk}
use Rattle.std.proofs.Common.{cond, refl, subst, ◌∙◌, arith}
use Rattle.std.specs.List.{range_with_len, flat_map, list_all}
use Rattle.std.proofs.lemmas.Bool.{lt-ltb, and_parts, and_from}
use Rattle.std.proofs.lemmas.List.{length-map}
use Rattle.std.proofs.lemmas.List.Folds.{list_all-append}
use Rattle.plan_sets.specs.Limits.{end_second}
use Rattle.plan_next.specs.Starts.{is_start, rule_starts}
use Rattle.plan_rules.specs.Job.{JobParts}
use Rattle.plan_next.specs.Span.{Bounds}
use Rattle.plan_collect.specs.Agenda.{Planned, IsInYears, IsOfJobs}
use Rattle.plan_collect.specs.Planning.{Gives, agenda_within}
use Rattle.plan_collect.specs.Windows.{Timing, timings_of, meets, windows_from, agenda_of_windows, planned_windows}
use Rattle.plan_collect.specs.declared.plan_fault.PlanFault.{PlanFault}

-- a test that each entry of a row passes is passed by all entries of all rows
step :
    (test : ℕ × ℕ → Bool) (is : Bool) (entry : ℕ × ℕ) (row : List (ℕ × ℕ)) → (is ≡ true → test entry ≡ true) →
    list_all test row ≡ true → list_all test (cond is (entry ∷ row) row) ≡ true
step test true entry row here later = and_from (test entry) (list_all test row) (here refl) later
step test false entry row here later = later

rows :
    (test : ℕ × ℕ → Bool) (timings : List Timing) (span : Bounds) (seconds : List ℕ) →
    ((second : ℕ) → list_all test (windows_from 0 timings span second) ≡ true) →
    list_all test (flat_map (windows_from 0 timings span) seconds) ≡ true
rows test timings span [] row = refl
rows test timings span (second ∷ seconds) row =
    list_all-append test (windows_from 0 timings span second) (flat_map (windows_from 0 timings span) seconds)
    ∙ and_from (list_all test (windows_from 0 timings span second)) (list_all test (flat_map (windows_from 0 timings span) seconds))
    (row second) (rows test timings span seconds row)

row_in_years : (job : ℕ) (timings : List Timing) (span : Bounds) (second : ℕ) → IsInYears (windows_from job timings span second)
row_in_years job [] span second = refl
row_in_years job (timing ∷ timings) span second =
    step (λ entry. nat_lt entry.0 end_second) (is_start timing.rule second && meets span timing.delay second) (second, job)
    (windows_from (job + 1) timings span second)
    (λ is. (and_parts (nat_lt second end_second) (rule_starts timing.rule second)
    (and_parts (is_start timing.rule second) (meets span timing.delay second) is).0).0)
    (row_in_years (job + 1) timings span second)

-- the seconds of an agenda are in the years that can be planned
pub agenda-in_years : (timings : List Timing) (span : Bounds) → IsInYears (agenda_of_windows timings span)
unfolding agenda_of_windows
agenda-in_years timings span =
    rows (λ entry. nat_lt entry.0 end_second) timings span (range_with_len 0 span.upto) (row_in_years 0 timings span)

row_of_jobs :
    (job jobs : ℕ) (timings : List Timing) (span : Bounds) (second : ℕ) → job + length timings ≤ jobs →
    IsOfJobs jobs (windows_from job timings span second)
row_of_jobs job jobs [] span second few = refl
row_of_jobs job jobs (timing ∷ timings) span second few =
    step (λ entry. nat_lt entry.1 jobs) (is_start timing.rule second && meets span timing.delay second) (second, job)
    (windows_from (job + 1) timings span second) (λ is. lt-ltb job jobs (omega arith))
    (row_of_jobs (job + 1) jobs timings span second (omega arith))

-- each entry of an agenda has the number of one of the jobs with these timings
pub agenda-of_timings : (timings : List Timing) (span : Bounds) → IsOfJobs (length timings) (agenda_of_windows timings span)
unfolding agenda_of_windows
agenda-of_timings timings span =
    rows (λ entry. nat_lt entry.1 (length timings)) timings span (range_with_len 0 span.upto)
    (λ second. row_of_jobs 0 (length timings) timings span second (omega arith))

-- each number below the number of jobs is that of a job
pub job_there : (jobs : List JobParts) (n : ℕ) → None ≡ slice_get jobs n → n < length jobs → ⊥
job_there [] n none lt = omega arith
job_there (job ∷ jobs) zero none lt = cc
job_there (job ∷ jobs) (suc n) none lt = job_there jobs n none (omega arith)

-- there are as many timings as jobs
pub length-timings_of : (jobs : List JobParts) → length (timings_of jobs) ≡ length jobs
length-timings_of jobs = length-map jobs _

-- each entry of an agenda has the number of one of these jobs
agenda-of_jobs : (jobs : List JobParts) (span : Bounds) → IsOfJobs (length jobs) (agenda_of_windows (timings_of jobs) span)
agenda-of_jobs jobs span = rw (length-timings_of jobs) at (agenda-of_timings (timings_of jobs) span)

-- the same of an agenda that a plan gives
pub gives-of_jobs :
    (jobs : List JobParts) (span : Bounds) (limit : ℕ) (result : Result Planned PlanFault) →
    Gives result (agenda_within (timings_of jobs) span limit) → IfOk result (λ made. IsOfJobs (length jobs) made.entries)
gives-of_jobs jobs span limit (Err fault) is = tt
gives-of_jobs jobs span limit (Ok made) is = go (nat_le (length (agenda_of_windows (timings_of jobs) span)) limit) _ is
  where
    go : (few : Bool) (fault : PlanFault) → cond few (Ok (planned_windows (timings_of jobs) span)) (Err fault) ≡ Ok made → IsOfJobs
        (length jobs) made.entries
    go true fault is =
        let same : planned_windows (timings_of jobs) span ≡ made = cc in
        subst (λ (m : Planned). IsOfJobs (length jobs) m.entries) same (agenda-of_jobs jobs span)
    go false fault is = absurd cc
