-- A job's pieces, collected one after the other: for the loop of `collect_job` and its `fails`. `IsAt` says that in the
-- collector only the second to which the job is covered has changed. In `piece_rejected` the first three tests of
-- `fault_of_note` pass. So only the test of the limit remains, and the error is `TooMany` or `NoMemory`.
use Rattle.std.proofs.Common.{◌≡◌, ◌≢◌, ℕ, zero, suc, ◌%◌, ◌<◌, ◌≤◌, Bool, true, false, cond, ◌&&◌, ◌==◌, List, [], ◌∷◌, length, None, Some, Result, Err, refl, ap, sym, subst, ◌∙◌, arith}
use Rattle.std.specs.Prelude.{slice_get, slice_index, slice_set, unwrap_or, nat_lt, nat_le}
use Rattle.std.proofs.lemmas.Bool.{and_from, eq-eqb, le-leb, lt-leb}
use Rattle.std.proofs.lemmas.Option.{get_or_from_slice_get}
use Rattle.plan_collect.specs.Span.{Bounds}
use Rattle.plan_match.specs.Equal.{same_rule-Decides}
use Rattle.plan_next.specs.Piece.{Part}
use Rattle.plan_collect.specs.declared.note.Note.TheVariants as note
use Rattle.plan_collect.specs.declared.collector.CollectFault.{CollectFault}
use Rattle.plan_collect.specs.declared.collector.CollectFault.TheVariants.{NoMemory, Stranger, Gap, TooMany, AfterLast}
use Rattle.plan_collect.specs.Collecting.{Collected, is_rule_of, belongs, has_ended, adjoins, has_room, fault_of_note, Answers}
use Rattle.plan_collect.specs.TilingLaws.{set_again}
use Rattle.plan_collect.specs.Planning.{agenda_within}
use Rattle.plan_collect.specs.declared.plan_fault.PlanFault.{PlanFault}
use Rattle.plan_collect.specs.declared.plan_fault.PlanFault.TheVariants as plan
use Rattle.plan_collect.specs.PlanFault.{of_collect}
use Rattle.plan_collect.specs.Windows.{Timing, agenda_of_windows}
use Rattle.std.proofs.lemmas.Bool.Decides.{nat_tests}
use Rattle.std.proofs.lemmas.Grind.{common_steps}

-- the pieces of one job up to this second were collected
pub record IsAt (old now : Collected) (job since : ℕ) : Type 0 where
  pub timings : now.timings ≡ old.timings
  pub span : now.span ≡ old.span
  pub limit : now.limit ≡ old.limit
  pub ended : now.ended ≡ old.ended
  pub others : (end : ℕ) → slice_set now.covered job end ≡ slice_set old.covered job end
  pub here : slice_get now.covered job ≡ Some since

get_set : (xs : List ℕ) (i a b : ℕ) → slice_get xs i ≡ Some a → slice_get (slice_set xs i b) i ≡ Some b
get_set [] i a b is = absurd cc
get_set (x ∷ xs) zero a b is = refl
get_set (x ∷ xs) (suc i) a b is = get_set xs i a b is

-- one more piece
pub IsAt-more :
    (old now new : Collected) (job since end : ℕ) → IsAt old now job since →
    new ≡ record now { covered = slice_set now.covered job end } → IsAt old new job end
IsAt-more old now new job since end so_far is = grind (arith, nat_tests, set_again, get_set)

-- an error that comes after three tests passed
last_fault :
    (room : Bool) (fault : CollectFault) (P : Type 0) → Answers (Err fault) (cond room None (Some TooMany)) →
    (fault ≡ TooMany → P) → (fault ≡ NoMemory → P) → P
last_fault true NoMemory P is many none = none refl
last_fault true other P is many none = absurd cc
last_fault false TooMany P is many none = many refl
last_fault false other P is many none = absurd cc

only_room :
    (belonging ended adjoining room : Bool) → belonging ≡ true → ended ≡ false → adjoining ≡ true →
    cond belonging (cond ended (Some AfterLast) (cond adjoining (cond room None (Some TooMany)) (Some Gap)))
    (Some Stranger) ≡ cond room None (Some TooMany)
only_room belonging ended adjoining room b e a = rw (b, e, a) refl

more_than :
    (old now : Collected) {job since : ℕ} → IsAt old now job since → now.limit < length (agenda_of_windows now.timings now.span) →
    old.limit < length (agenda_of_windows old.timings old.span)
more_than old now so_far many = grind (arith, nat_tests, common_steps)

-- a plan stops with this error
abbrev pub Fails : Collected → PlanFault → Type 0
Fails c fault = fault ≢ plan.NoMemory → agenda_within c.timings c.span c.limit ≡ Err fault

too_many : (c : Collected) → c.limit < length (agenda_of_windows c.timings c.span) → Fails c (plan.Collect TooMany)
too_many c many other = let more : nat_le (length (agenda_of_windows c.timings c.span)) c.limit ≡ false = lt-leb _ _ many in rw more refl

-- the answer to a message that is rejected
abbrev pub err_of : CollectFault → Result (Unit {0}) CollectFault
err_of fault = Err fault

-- a rejected piece of a plan by one planner, if all tests but that of the limit pass
pub piece_rejected :
    (old now : Collected) (job : ℕ) (timing : Timing) (piece : Part) (since upto : ℕ) (fault : CollectFault) → IsAt old now job since →
    old.ended ≡ false ∷ [] → old.span.upto ≡ upto → slice_get old.timings job ≡ Some timing → piece.rule ≡ timing.rule →
    piece.since ≡ since → piece.upto ≤ upto → Answers (Err fault) (fault_of_note now 0 (note.Part job piece)) →
    (err_of fault ≡ err_of TooMany → now.limit < length (agenda_of_windows now.timings now.span)) → Fails old (of_collect fault)
piece_rejected old now job timing piece since upto fault so_far unended ends known own begins within answer many =
    let none_ended : now.ended ≡ false ∷ [] = so_far.ended ∙ unended in
    let there : slice_get now.timings job ≡ Some timing = ap (λ timings. slice_get timings job) so_far.timings ∙ known in
    let same : is_rule_of (slice_get now.timings job) piece.rule ≡ true = ap (λ t. is_rule_of t piece.rule) there ∙
    (same_rule-Decides timing.rule piece.rule).1 (sym own) in
    let remainder : (job % 1 == 0) ≡ true = eq-eqb (job % 1) 0 (omega arith) in
    let belonging : belongs now 0 (note.Part job piece) ≡ true =
    ap (λ (ended : List Bool). nat_lt 0
    (length ended) && (job % length ended == 0 && is_rule_of (slice_get now.timings job) piece.rule)) none_ended
    ∙ and_from (job % 1 == 0) (is_rule_of (slice_get now.timings job) piece.rule) remainder same in
    let going_on : has_ended now 0 ≡ false = ap (λ (ended : List Bool). unwrap_or (slice_get ended 0) false) none_ended in
    let at_begin : (slice_index now.covered job == piece.since) ≡ true = eq-eqb (slice_index now.covered job) piece.since
    (get_or_from_slice_get now.covered job since 0 so_far.here ∙ sym begins) in
    let end_is : now.span.upto ≡ upto = ap (λ (s : Bounds). s.upto) so_far.span ∙ ends in
    let at_end : nat_le piece.upto now.span.upto ≡ true = le-leb piece.upto now.span.upto (omega arith) in
    let adjoining : adjoins now (note.Part job piece) ≡ true = and_from (slice_index now.covered job == piece.since)
    (nat_le piece.upto now.span.upto) at_begin at_end in
    let P : Type 0 = Fails old (of_collect fault) in
    last_fault (has_room now (note.Part job piece)) fault P
    (subst (Answers (Err fault)) (only_room (belongs now 0 (note.Part job piece)) (has_ended now 0)
    (adjoins now (note.Part job piece)) (has_room now (note.Part job piece)) belonging going_on adjoining) answer)
    (λ is. subst (λ f. Fails old (of_collect f)) (sym is) (too_many old (more_than old now so_far (many (ap err_of is)))))
    (λ is. subst (λ f. Fails old (of_collect f)) (sym is) (λ other. absurd (other refl)))
