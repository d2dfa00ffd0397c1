-- The texts of jobs, one after the other: for the loop of `JobLines::new`.
use Rattle.std.proofs.Common.{◌≡◌, ℕ, ◌+◌, List, [], ◌∷◌, ◌++◌, map, take, Some, ap, sym, ◌∙◌}
use Rattle.std.specs.Prelude.{slice_get}
use Rattle.std.proofs.lemmas.List.{map-append, take_more}
use Rattle.std.proofs.lemmas.Option.{get_or_from_slice_get, slice_get_within}
use Rattle.plan_rules.specs.Job.{JobParts}
use Rattle.plan_changes.specs.Lines.{job_texts}

-- one more job
pub texts_more :
    (jobs : List JobParts) (n : ℕ) (job : JobParts) (texts : List (List ℕ × List ℕ)) (own : List ℕ × List ℕ) →
    texts ≡ map job_texts (take n jobs) → Some job ≡ slice_get jobs n → own ≡ job_texts job →
    texts ++ own ∷ [] ≡ map job_texts (take (n + 1) jobs)
texts_more jobs n job texts own so_far is made =
    (λ i. so_far i ++ made i ∷ []) ∙ sym (map-append job_texts (take n jobs) (job ∷ []))
    ∙ sym (ap (map job_texts) (take_more jobs n job (slice_get_within jobs n job (sym is))
    ∙ ap (λ x. take n jobs ++ x ∷ []) (get_or_from_slice_get jobs n job job (sym is))))
