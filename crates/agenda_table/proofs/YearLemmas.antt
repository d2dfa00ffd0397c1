-- The times of tables are in the planner's years, or at their end.
use Rattle.std.proofs.Common.{ℕ, zero, suc, ◌<◌, ◌≤◌, Bool, true, false, List, [], ◌∷◌, ◌++◌, length, get_or, inl, inr, refl, ◌∙◌, arith}
use Rattle.std.specs.Prelude.{◌&&◌, nat_le, nat_lt, slice_get, Option, None, Some}
use Rattle.std.specs.List.{list_all}
use Rattle.std.proofs.lemmas.Bool.{and_from, and_parts, cases_Bool, leb-true, le-leb, ltb-true}
use Rattle.std.proofs.lemmas.List.Folds.{list_all-append}
use Rattle.plan_collect.specs.Windows.{latest_start}
use Rattle.plan_sets.specs.Limits.{end_second}
use Rattle.plan_write.specs.Upcoming.{start_or_none}
use Rattle.agenda_table.specs.Dates.{AreInYears, gap_times, job_times, times_of_job}
use Rattle.agenda_table.specs.Gaps.{AreGaps}
use Rattle.agenda_table.specs.Rows.{JobTexts}

-- those of two lists
pub both_in_years : (xs ys : List ℕ) → AreInYears xs → AreInYears ys → AreInYears (xs ++ ys)
both_in_years xs ys one two =
    list_all-append (λ (n : ℕ). nat_le n end_second) xs ys
    ∙ and_from (list_all (λ (n : ℕ). nat_le n end_second) xs) (list_all (λ (n : ℕ). nat_le n end_second) ys) one two

-- one of a list
pub one_in_years : (xs : List ℕ) (i d : ℕ) → AreInYears xs → i < length xs → get_or xs i d ≤ end_second
one_in_years [] i d years lt = absurd (omega arith)
one_in_years (x ∷ xs) zero d years lt =
    leb-true x end_second (and_parts (nat_le x end_second) (list_all (λ (n : ℕ). nat_le n end_second) xs) years).0
one_in_years (x ∷ xs) (suc i) d years lt =
    one_in_years xs i d (and_parts (nat_le x end_second) (list_all (λ (n : ℕ). nat_le n end_second) xs) years).1 (omega arith)

pub single : (n : ℕ) → n ≤ end_second → AreInYears (n ∷ [])
single n years = and_from (nat_le n end_second) true (le-leb n end_second years) refl

latest_in_years : (delay n : ℕ) → latest_start delay n ≤ end_second
latest_in_years delay n = omega arith

start_times : (delays : Bool) (n : ℕ) (job : Option JobTexts) → n ≤ end_second → AreInYears (times_of_job delays (Some n) job)
start_times false n None years = refl
start_times true n None years = refl
start_times false n (Some job) years = single n years
start_times true n (Some job) years =
    and_from (nat_le n end_second) _ (le-leb n end_second years)
    (single (latest_start job.delay n) (latest_in_years job.delay n))

row_times : (delays : Bool) (n : ℕ) (job : Option JobTexts) → AreInYears (times_of_job delays (start_or_none n) job)
row_times delays n job = elim (cases_Bool (nat_lt n end_second)) [
  | inl is ↦
      let lt : n < end_second = ltb-true n end_second is in
      rw is (start_times delays n job (omega (arith, lt)))
  | inr is ↦ rw is refl
]

-- those of starts of jobs
pub job_times_in_years : (delays : Bool) (starts : List (ℕ × ℕ)) (jobs : List JobTexts) → AreInYears (job_times delays starts jobs)
job_times_in_years delays [] jobs = refl
job_times_in_years delays (start ∷ starts) jobs =
    both_in_years (times_of_job delays (start_or_none start.0) (slice_get jobs start.1)) (job_times delays starts jobs)
    (row_times delays start.0 (slice_get jobs start.1)) (job_times_in_years delays starts jobs)

-- those of gaps
pub gap_times_in_years : (gaps : List (ℕ × ℕ)) → AreGaps gaps → AreInYears (gap_times gaps)
gap_times_in_years [] are = refl
gap_times_in_years (gap ∷ gaps) are =
    let (here, later) = and_parts (nat_le gap.0 end_second && nat_le gap.1 end_second)
    (list_all (λ (gap : ℕ × ℕ). nat_le gap.0 end_second && nat_le gap.1 end_second) gaps) are in
    let (start, end) = and_parts (nat_le gap.0 end_second) (nat_le gap.1 end_second) here in
    and_from (nat_le gap.0 end_second) _ start (and_from (nat_le gap.1 end_second) _ end (gap_times_in_years gaps later))
