-- The timings of jobs, one after the other: for the loop of `timings_in`.
use Rattle.std.proofs.Common.{◌≡◌, ℕ, ◌+◌, List, [], ◌∷◌, ◌++◌, take, Some, ap, sym, ◌∙◌}
use Rattle.std.specs.Prelude.{slice_get}
use Rattle.std.proofs.lemmas.List.{take_more, map-append}
use Rattle.std.proofs.lemmas.Option.{slice_get_within, get_or_from_slice_get}
use Rattle.plan_rules.specs.Job.{JobParts}
use Rattle.plan_collect.specs.Windows.{Timing, timing_of, timings_of}

-- one more job
pub timings_more :
    (jobs : List JobParts) (n : ℕ) (job : JobParts) (timings : List Timing) (timing : Timing) → timings ≡ timings_of (take n jobs) →
    Some job ≡ slice_get jobs n → timing ≡ timing_of job → timings ++ timing ∷ [] ≡ timings_of (take (n + 1) jobs)
timings_more jobs n job timings timing so_far is own =
    let lt = slice_get_within jobs n job (sym is) in
    let here = get_or_from_slice_get jobs n job job (sym is) in
    let more : take (n + 1) jobs ≡ take n jobs ++ job ∷ [] = take_more jobs n job lt ∙ ap (λ x. take n jobs ++ x ∷ []) here in
    (λ i. so_far i ++ own i ∷ []) ∙ sym (map-append timing_of (take n jobs) (job ∷ [])) ∙ sym (ap timings_of more)
