-- What is made of jobs, one after the other: for the loops of `LineEnds::new`, `LineEnds::with_files`, and others with files.
use Rattle.std.proofs.Common.{◌≡◌, ℕ, ◌+◌, Bool, List, [], ◌∷◌, ◌++◌, length, map, take, Option, None, Some, get_or, nat_lt, add-zero, ap, refl, sym, ◌∙◌, arith}
use Rattle.std.specs.List.{enumerate_from}
use Rattle.std.specs.Borrow.{Bor}
use Rattle.std.specs.Prelude.{IfSome, is_some, option_copied, slice_get}
use Rattle.std.proofs.lemmas.Bool.{ltb-false, ltb-true}
use Rattle.std.proofs.lemmas.Bool.Decides.{nat_tests}
use Rattle.std.proofs.lemmas.Grind.{common_steps}
use Rattle.std.proofs.lemmas.List.{length-take-le, take_more, map-append}
use Rattle.std.proofs.lemmas.Option.{slice_get_past, slice_get_read, slice_get_within, get_or_from_slice_get}
use Rattle.plan_rules.specs.Job.{JobParts}
use Rattle.plan_write.specs.Texts.{EndParts, by_files, line_end}
use Rattle.plan_write.specs.declared.line_ends.JobFile.{JobFile}

-- the jobs so far and one more
job_more :
    (jobs : List JobParts) (n : ℕ) (job : JobParts) → Some job ≡ slice_get jobs n → take (n + 1) jobs ≡ take n jobs ++ job ∷ []
job_more jobs n job is =
    take_more jobs n job (slice_get_within jobs n job (sym is))
    ∙ ap (λ x. take n jobs ++ x ∷ []) (get_or_from_slice_get jobs n job job (sym is))

-- one more job
pub ends_more :
    (json : Bool) (jobs : List JobParts) (n : ℕ) (job : JobParts) (ends : List EndParts) (end : EndParts) → ends
    ≡ map (line_end json) (take n jobs) →
    Some job ≡ slice_get jobs n → end ≡ line_end json job → ends ++ end ∷ [] ≡ map (line_end json) (take (n + 1) jobs)
ends_more json jobs n job ends end so_far is own =
    (λ i. so_far i ++ own i ∷ []) ∙ sym (map-append (line_end json) (take n jobs) (job ∷ []))
    ∙ sym (ap (map (line_end json)) (job_more jobs n job is))

-- the places of a list with one more element
places_more : {A : Type 0} (n : ℕ) (xs : List A) (x : A) → enumerate_from n (xs ++ x ∷ []) ≡ enumerate_from n xs ++ (n + length xs, x) ∷ []
places_more n [] x = ap (λ k. (k, x) ∷ []) (sym (add-zero n))
places_more n (y ∷ xs) x = grind (arith, nat_tests, common_steps, places_more (n + 1) xs x)

-- the file at a place, as a list of files gives it
pub file_there :
    (files : List JobFile) (n : ℕ) (file : Option (Bor JobFile)) → is_some file ≡ nat_lt n (length files) →
    IfSome file (λ one. one.now ≡ get_or files n one.now) → option_copied file ≡ slice_get files n
file_there files n None none own = sym (slice_get_past files n (ltb-false n (length files) (sym none)))
file_there files n (Some one) some own =
    sym (slice_get_read files (length files) n one.now refl (ltb-true n (length files) (sym some)) own)

-- one more job with its file
pub filed_more :
    {X : Type 0} (one : Option JobFile → JobParts → X) (files : List JobFile) (jobs : List JobParts) (n : ℕ) (job : JobParts)
    (file : Option JobFile) (made : List X) (next : X) → made ≡ by_files one files (take n jobs) → Some job ≡ slice_get jobs n →
    file ≡ slice_get files n → next ≡ one file job → made ++ next ∷ [] ≡ by_files one files (take (n + 1) jobs)
filed_more one files jobs n job file made next so_far is there own =
    let inside = slice_get_within jobs n job (sym is) in
    let count : 0 + length (take n jobs) ≡ n = omega (arith, length-take-le n jobs (omega (arith, inside))) in
    let f = λ (pair : ℕ × JobParts). one (slice_get files pair.0) pair.1 in
    let places = ap (enumerate_from 0) (job_more jobs n job is) ∙ places_more 0 (take n jobs) job in
    (λ i. so_far i ++ (own ∙ ap (λ held. one held job) there ∙ ap (λ k. one (slice_get files k) job) (sym count)) i ∷ [])
    ∙ sym (map-append f (enumerate_from 0 (take n jobs)) ((0 + length (take n jobs), job) ∷ []))
    ∙ sym (ap (map f) places)
