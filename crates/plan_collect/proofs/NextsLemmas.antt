-- The next starts of jobs, one after the other: for the loop of `nexts_of`. By induction over the jobs that are left.
use Rattle.std.proofs.Common.{◌≡◌, ℕ, ◌+◌, List, [], ◌∷◌, ◌++◌, drop, Some, ap, sym, ◌∙◌, arith, suc, zero, append_assoc}
use Rattle.std.specs.Prelude.{slice_get}
use Rattle.plan_rules.specs.Job.{JobParts}
use Rattle.plan_collect.specs.Upcoming.{next_or_end, nexts_from}
use Rattle.std.proofs.lemmas.Bool.Decides.{nat_tests}
use Rattle.std.proofs.lemmas.Grind.{common_steps}

-- the jobs that are left start with the one at this place
left_from :
    (jobs : List JobParts) (n after : ℕ) (job : JobParts) → Some job ≡ slice_get jobs n → (number : ℕ) →
    nexts_from number after (drop n jobs) ≡ (next_or_end job.rule after, number) ∷ nexts_from (number + 1) after (drop (suc n) jobs)
left_from [] n after job is number = cc
left_from (first ∷ jobs) zero after job is number = grind (arith, nat_tests, common_steps)
left_from (first ∷ jobs) (suc n) after job is number = left_from jobs n after job is number

-- one more next start, and the others that are left
pub nexts_more :
    (jobs : List JobParts) (n after : ℕ) (job : JobParts) (nexts : List (ℕ × ℕ)) (next : ℕ × ℕ) (all : List (ℕ × ℕ)) →
    nexts ++ nexts_from n after (drop n jobs) ≡ all → Some job ≡ slice_get jobs n → next ≡ (next_or_end job.rule after, n) →
    (nexts ++ next ∷ []) ++ nexts_from (n + 1) after (drop (n + 1) jobs) ≡ all
nexts_more jobs n after job nexts next all so_far is own =
    let later = nexts_from (n + 1) after (drop (n + 1) jobs) in
    let one : suc n ≡ n + 1 = omega arith in
    let left : nexts_from n after (drop n jobs) ≡ (next_or_end job.rule after, n) ∷ later =
    left_from jobs n after job is n ∙ ap (λ k. (next_or_end job.rule after, n) ∷ nexts_from (n + 1) after (drop k jobs)) one in
    append_assoc nexts (next ∷ []) later ∙ ap (λ x. nexts ++ x ∷ later) own ∙ ap (λ xs. nexts ++ xs) (sym left) ∙ so_far
