-- Jobs that are changed one after another: for `in_zone` and `without_delays` of `Jobs`. One entry of the map changes at a
-- time: `same_names` says that the names are unchanged, `first_more` that one more job is changed.
use Rattle.std.proofs.Common.{◌≡◌, ℕ, zero, suc, List, [], ◌∷◌, map, Some, Result, Ok, Err, OnOk, OnErr, refl, ap}
use Rattle.std.specs.List.{slice_get}
use Rattle.std.specs.Map.{values_of}
use Rattle.std.specs.declared.alloc.AllocError.{AllocError}
use Rattle.indexmap.specs.IndexMap.{set_value_at}
use Rattle.plan_clock.specs.declared.row.Change.{Change}
use Rattle.plan_rules.specs.Job.{JobParts}
use Rattle.plan_rules.specs.Delays.{first_changed}
use Rattle.plan_rules.specs.Zone.{job_in}

-- the names of the jobs of entries
abbrev pub names : {K : Type 0} → List (K × JobParts) → List (List ℕ)
names es = map (λ (job : JobParts). job.name) (values_of es)

-- an entry whose job keeps its name
pub same_names :
    {K : Type 0} (es : List (K × JobParts)) (i : ℕ) (old new : JobParts) → slice_get (values_of es) i ≡ Some old → new.name ≡ old.name →
    names (set_value_at es i new) ≡ names es
same_names [] i old new here same = refl
same_names (e ∷ es) zero old new here same = cc
same_names (e ∷ es) (suc i) old new here same = ap (λ (l : List (List ℕ)). e.1.name ∷ l) (same_names es i old new here same)

-- each job keeps its name, whether it is put in a zone or not
pub name_kept :
    (put : Result (Unit {0}) AllocError) (clock : List Change) (old new : JobParts) → OnOk put (new ≡ job_in clock old) →
    OnErr put (new ≡ old) → new.name ≡ old.name
name_kept (Ok x) clock old new done kept = ap (λ (job : JobParts). job.name) done
name_kept (Err e) clock old new done kept = ap (λ (job : JobParts). job.name) kept

-- one more job is changed
pub first_more :
    {K : Type 0} (change : JobParts → JobParts) (es : List (K × JobParts)) (jobs : List JobParts) (i : ℕ) (old : JobParts) →
    slice_get (values_of es) i ≡ Some old → values_of es ≡ first_changed change i jobs →
    values_of (set_value_at es i (change old)) ≡ first_changed change (suc i) jobs
first_more change [] jobs i old here so_far = cc
first_more change (e ∷ es) [] zero old here so_far = cc
first_more change (e ∷ es) [] (suc i) old here so_far = cc
first_more change (e ∷ es) (job ∷ jobs) zero old here so_far = cc
first_more change (e ∷ es) (job ∷ jobs) (suc i) old here so_far =
    let rest : values_of es ≡ first_changed change i jobs = cc in
    let more = first_more change es jobs i old here rest in cc

-- what a call did if it succeeded
pub where_done : {E : Type 0} (put : Result (Unit {0}) E) (P Q : Type 0) → OnOk put P → (P → Q) → OnOk put Q
where_done (Ok x) P Q done leads = leads done
where_done (Err e) P Q done leads = tt
