-- What is known when planners are joined: for the loop of `Desk::settle_all`. The receipt keeps the thread's promise
-- (`Keeps`), and the promise is that of the planner (`IsPlanner`): so are the ring and the messages. `accounts_more` adds
-- it to those before, and `and_ok`, `and_err` go by the cases of `Result::and`.
use Rattle.std.proofs.Common.{◌≡◌, ℕ, ◌+◌, ◌<◌, false, List, Some, Result, inl, inr, ap, sym, ◌∙◌, subst, arith}
use Rattle.std.proofs.lemmas.Bool.Decides.{nat_tests}
use Rattle.std.specs.Prelude.{Bool, slice_get, IsOk, OnOk, IfErr}
use Rattle.std.specs.Result.{result_and}
use Rattle.std.proofs.lemmas.Bool.{cases_eq}
use Rattle.plan_collect.specs.declared.note.Note.{Note}
use Rattle.plan_collect.specs.declared.plan_fault.PlanFault.{PlanFault}
use Rattle.plan_mailbox.specs.declared.outlet.Receipt.{Receipt}
use Rattle.plan_mailbox.specs.Ends.{ReceivingEnd, Ring, receipt_of}
use Rattle.plan_threads.specs.declared.promise.PlannerPromise.{PlannerPromise}
use Rattle.plan_threads.specs.Promise.{Keeps}
use Rattle.plan_threads.specs.Gathering.{IsAccounted, IsPlanner, IsThreadFault}
use Rattle.plan_threads.specs.Task.{TaskParts, all_notes}

pub planner_ring :
    (task : TaskParts) (rings : List Ring) (k : ℕ) (p : PlannerPromise) (r : Receipt Note × Bool) → IsPlanner task rings k p → Keeps p r →
    slice_get rings (receipt_of r.0).sender ≡ Some (receipt_of r.0).ring
planner_ring task rings k p r is keeps = ap (slice_get rings) (keeps.0 ∙ is.sender) ∙ is.ring ∙ ap Some (sym keeps.1)

pub planner_sent :
    (task : TaskParts) (rings : List Ring) (k : ℕ) (p : PlannerPromise) (r : Receipt Note × Bool) → IsPlanner task rings k p → Keeps p r →
    r.1 ≡ false → (receipt_of r.0).sent ≡ all_notes task k
planner_sent task rings k p r is keeps granted = keeps.2 granted ∙ (λ i. all_notes (is.same i) (is.sender i))

-- the receipt of one more sender was settled
pub accounts_more :
    (all : ℕ → List Note) (b b' : ReceivingEnd Note) (done s : ℕ) (sent : List Note) → s ≡ done → sent ≡ all done →
    IsAccounted b' s sent → ((k : ℕ) (x : List Note) → (k ≡ s → ⊥) → IsAccounted b k x → IsAccounted b' k x) →
    ((k : ℕ) → k < done → IsAccounted b k (all k)) → (k : ℕ) → k < done + 1 → IsAccounted b' k (all k)
accounts_more all b b' done s sent own is here others before k lt =
    elim (cases_eq k done) [
      | inl now ↦ subst (λ n. IsAccounted b' n (all n)) (sym now)
          (subst (λ x. IsAccounted b' done x) is (subst (λ n. IsAccounted b' n sent) own here))
      | inr not ↦ others k (all k) (λ e. not (e ∙ own)) (before k (omega arith))
    ]

pub and_ok :
    (first second : Result (Unit {0}) PlanFault) (A B C : Type 0) → OnOk first A → B → (A → B → C) →
    OnOk (result_and first second) C
and_ok first second A B C a b go = grind (arith, nat_tests)

pub and_err :
    (first second : Result (Unit {0}) PlanFault) → IfErr first IsThreadFault → IsOk second →
    IfErr (result_and first second) IsThreadFault
and_err first second a b = grind (arith, nat_tests)
