-- A plan by one planner: for the loop of `plan_serial` and for its end. `if_err` is for `collect_job`. `IsUpTo` says that
-- the first jobs are covered to the end of the span and the others only to their first second (`covered_to`). With all jobs
-- covered, and the last message, the collector is complete: `finished-all`.
use Rattle.std.proofs.Common.{◌≡◌, ℕ, zero, suc, ◌+◌, ◌<◌, Bool, true, false, cond, ◌&&◌, ◌==◌, List, [], ◌∷◌, length, Some, Result, Ok, Err, refl, ap, sym, subst, ◌∙◌, arith}
use Rattle.std.specs.Prelude.{slice_get, slice_set}
use Rattle.std.specs.Prelude.{IsErrAnd, IfErr}
use Rattle.std.specs.List.{list_all}
use Rattle.std.proofs.lemmas.Bool.{eq-eqb, and_from}
use Rattle.plan_collect.specs.declared.note.Note.TheVariants as note
use Rattle.plan_collect.specs.declared.collector.CollectFault.TheVariants as collect
use Rattle.plan_collect.specs.Span.{Bounds}
use Rattle.plan_collect.specs.Agenda.{Planned}
use Rattle.plan_collect.specs.Collecting.{Collected, firsts_of, after, is_complete, finished}
use Rattle.plan_collect.specs.Windows.{Timing, first_second, planned_windows}
use Rattle.std.proofs.lemmas.Bool.Decides.{nat_tests}
use Rattle.std.proofs.lemmas.Grind.{common_steps}

-- to where jobs are covered if the first `done` of them are covered to the end of the span
abbrev pub covered_to : (done : ℕ) → Bounds → List Timing → List ℕ
covered_to zero span timings = firsts_of span timings
covered_to (suc done) span [] = []
covered_to (suc done) span (timing ∷ timings) = span.upto ∷ covered_to done span timings

-- all pieces of the first jobs were collected, and none of the others
pub record IsUpTo (timings : List Timing) (span : Bounds) (limit done : ℕ) (c : Collected) : Type 0 where
  pub timings_are : c.timings ≡ timings
  pub span_is : c.span ≡ span
  pub limit_is : c.limit ≡ limit
  pub none_ended : c.ended ≡ false ∷ []
  pub covered : c.covered ≡ covered_to done span timings

-- the next job is covered to its first second
pub next_at :
    (done : ℕ) (span : Bounds) (timings : List Timing) (timing : Timing) → slice_get timings done ≡ Some timing →
    slice_get (covered_to done span timings) done ≡ Some (first_second span timing.delay)
next_at zero span [] timing is = cc
next_at zero span (own ∷ timings) timing is = grind (arith, nat_tests, common_steps)
next_at (suc done) span [] timing is = cc
next_at (suc done) span (own ∷ timings) timing is = next_at done span timings timing is

next_covered :
    (done : ℕ) (span : Bounds) (timings : List Timing) → done < length timings →
    slice_set (covered_to done span timings) done span.upto ≡ covered_to (suc done) span timings
next_covered done span [] lt = absurd (omega arith)
next_covered zero span (timing ∷ timings) lt = refl
next_covered (suc done) span (timing ∷ timings) lt = ap (λ xs. span.upto ∷ xs) (next_covered done span timings (omega arith))

-- one more job
pub IsUpTo-more :
    (timings : List Timing) (span : Bounds) (limit done : ℕ) (c new : Collected) → IsUpTo timings span limit done c →
    done < length timings → new ≡ record c { covered = slice_set c.covered done span.upto } →
    IsUpTo timings span limit (done + 1) new
IsUpTo-more timings span limit done c new so_far lt is = grind (arith, nat_tests, next_covered)

all_covered :
    (done : ℕ) (span : Bounds) (timings : List Timing) → done ≡ length timings →
    list_all (λ upto. upto == span.upto) (covered_to done span timings) ≡ true
all_covered zero span [] all = refl
all_covered zero span (timing ∷ timings) all = absurd (omega arith)
all_covered (suc done) span [] all = refl
all_covered (suc done) span (timing ∷ timings) all = grind (arith, nat_tests, and_from, eq-eqb, all_covered done span timings (omega arith))

complete_finished : (complete : Bool) (made : Planned) → complete ≡ true → cond complete (Ok made) (Err collect.Missing) ≡ Ok made
complete_finished complete made is = rw is refl

-- after the last message the collector is complete
pub finished-all :
    (timings : List Timing) (span : Bounds) (limit done : ℕ) (c new : Collected) → IsUpTo timings span limit done c →
    done ≡ length timings → new ≡ after c 0 note.Last → finished new ≡ Ok (planned_windows timings span)
finished-all timings span limit done c new so_far all is =
    let ended : new.ended ≡ true ∷ [] = ap (λ (x : Collected). x.ended) is ∙ ap
    (λ (xs : List Bool). slice_set xs 0 true) so_far.none_ended in
    let covered : new.covered ≡ covered_to done span timings = ap (λ (x : Collected). x.covered) is ∙ so_far.covered in
    let upto : new.span ≡ span = ap (λ (x : Collected). x.span) is ∙ so_far.span_is in
    let own : new.timings ≡ timings = ap (λ (x : Collected). x.timings) is ∙ so_far.timings_are in
    let complete : is_complete new ≡ true =
    (λ i. list_all (λ n. n == (upto i).upto) (covered i) && list_all (λ has_sent_last. has_sent_last) (ended i)) ∙ and_from
    (list_all (λ n. n == span.upto) (covered_to done span timings)) true (all_covered done span timings all) refl in
    complete_finished (is_complete new) (planned_windows new.timings new.span) complete
    ∙ (λ i. Ok (planned_windows (own i) (upto i)))

pub err_not_ok : {T E : Type 0} (e : E) (x : T) → Err e ≡ Ok x → ⊥
err_not_ok e x is = cc

-- what `?` returns
pub if_err : {T E : Type 0} (r : Result T E) (e : E) (P : E → Type 0) → IsErrAnd r (λ f. f ≡ e) → P e → IfErr r P
if_err (Ok x) e P is h = tt
if_err (Err f) e P is h = subst P (sym is) h
