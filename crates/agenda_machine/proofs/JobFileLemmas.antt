-- The files of jobs, one after the other: for the loop of `files_among`.
use Rattle.std.proofs.Common.{◌≡◌, ℕ, zero, suc, ◌+◌, ◌<◌, List, [], ◌∷◌, ◌++◌, length, map, take, None, Some, ap, sym, ◌∙◌, arith}
use Rattle.std.specs.Prelude.{slice_get}
use Rattle.std.proofs.lemmas.List.{take_more, map-append}
use Rattle.std.proofs.lemmas.Option.{slice_get_within, get_or_from_slice_get}
use Rattle.agenda_machine.specs.Scripts.{SourceScripts}
use Rattle.plan_rules.specs.Job.{JobParts}
use Rattle.plan_write.specs.declared.JobFile.{JobFile}
use Rattle.agenda_machine.specs.JobFiles.{file_among, files_among}

-- there is a job at each place of the list
pub job_there : (jobs : List JobParts) (n : ℕ) → None ≡ slice_get jobs n → n < length jobs → ⊥
job_there [] n none inside = omega arith
job_there (job ∷ jobs) zero none inside = cc
job_there (job ∷ jobs) (suc n) none inside = job_there jobs n none (omega arith)

-- one more job
more_mapped :
    {X : Type 0} (f : JobParts → X) (jobs : List JobParts) (n : ℕ) (job : JobParts) (made : List X) (one : X) →
    made ≡ map f (take n jobs) → Some job ≡ slice_get jobs n → one ≡ f job → made ++ one ∷ [] ≡ map f (take (n + 1) jobs)
more_mapped f jobs n job made one so_far is own =
    let here = get_or_from_slice_get jobs n job job (sym is) in
    let more : take (n + 1) jobs ≡ take n jobs ++ job ∷ [] =
    take_more jobs n job (slice_get_within jobs n job (sym is)) ∙ ap (λ x. take n jobs ++ x ∷ []) here in
    (λ i. so_far i ++ own i ∷ []) ∙ sym (map-append f (take n jobs) (job ∷ [])) ∙ sym (ap (map f) more)

pub files_more :
    (root : List ℕ) (sources : List SourceScripts) (jobs : List JobParts) (n : ℕ) (job : JobParts) (files : List JobFile)
    (file : JobFile) → files ≡ files_among root sources (take n jobs) → Some job ≡ slice_get jobs n →
    file ≡ file_among root sources job.name → files ++ file ∷ [] ≡ files_among root sources (take (n + 1) jobs)
files_more root sources jobs n job files file = more_mapped (λ one. file_among root sources one.name) jobs n job files file

pub names_more :
    (jobs : List JobParts) (n : ℕ) (job : JobParts) (names : List (List ℕ)) (name : List ℕ) →
    names ≡ map (λ one. one.name) (take n jobs) → Some job ≡ slice_get jobs n → name ≡ job.name →
    names ++ name ∷ [] ≡ map (λ one. one.name) (take (n + 1) jobs)
names_more jobs n job names name = more_mapped (λ one. one.name) jobs n job names name
