-- What holds when threads are started: for `outlets` and `gathers` of `set_up`, and for the loop of `run_threads`.
-- `fresh_from` goes by induction over the outlets and their rings, which are numbered alike. Nothing was taken yet, so
-- the history of `gathers_none` is empty.
use Rattle.std.proofs.Common.{◌≡◌, ℕ, suc, ◌+◌, ◌≤◌, true, List, [], ◌∷◌, ◌++◌, length, map, Some, None, refl, ap, sym, ◌∙◌, subst, arith}
use Rattle.std.specs.Prelude.{slice_get}
use Rattle.std.specs.List.{enumerate_from}
use Rattle.std.specs.declared.thread.PromisedHandle.{PromisedHandle}
use Rattle.std.proofs.lemmas.List.{length-replicate, get_or-replicate}
use Rattle.plan_collect.specs.declared.note.Note.{Note}
use Rattle.plan_collect.specs.Collecting.{begun}
use Rattle.plan_collect.specs.Limits.{is_size}
use Rattle.plan_mailbox.specs.declared.outlet.Outlet.{Outlet}
use Rattle.plan_mailbox.specs.Ends.{Ring, SendingEnd, inlet_of, new_inlet, new_outlets, outlet_of}
use Rattle.plan_threads.specs.declared.promise.PlannerPromise as promise
use Rattle.plan_threads.specs.declared.desk.Desk.{Desk}
use Rattle.plan_threads.specs.Gathering.{AreFresh, ArePlanners, IsGathering, IsPlanner}
use Rattle.plan_threads.specs.Task.{TaskParts}
use Rattle.std.proofs.lemmas.Bool.Decides.{nat_tests}
use Rattle.std.proofs.lemmas.Grind.{common_steps}

-- one more thread
pub planners_more :
    {T : Type 0} (task : TaskParts) (rings : List Ring) (k : ℕ) (threads : List (PromisedHandle T promise.PlannerPromise))
    (thread : PromisedHandle T promise.PlannerPromise) →
    ArePlanners task rings k threads → IsPlanner task rings (k + length threads) thread.promise →
    ArePlanners task rings k (threads ++ thread ∷ [])
planners_more task rings k [] thread are is = grind (arith, nat_tests, common_steps)
planners_more task rings k (first ∷ threads) thread are is =
    let later : k + length (first ∷ threads) ≡ (k + 1) + length threads = omega arith in
    (are.0, planners_more task rings (k + 1) threads thread are.1 (subst (λ n. IsPlanner task rings n thread.promise) later is))

abbrev sending_at : ℕ × Ring → SendingEnd Note
sending_at p = record { sender = p.0; ring = p.1; sent = [] }

-- new outlets are fresh
fresh_from :
    (k : ℕ) (outlets : List (Outlet Note)) (rings all : List Ring) →
    map outlet_of outlets ≡ map sending_at (enumerate_from k rings) →
    ((i : ℕ) (ring : Ring) → slice_get rings i ≡ Some ring → slice_get all (k + i) ≡ Some ring) → AreFresh all k outlets
fresh_from k [] rings all are place = tt
fresh_from k (outlet ∷ outlets) [] all are place = absurd cc
fresh_from k (outlet ∷ outlets) (ring ∷ rings) all are place =
    let here : outlet_of outlet ≡ record { sender = k; ring = ring; sent = [] } = cc in
    let later : map outlet_of outlets ≡ map sending_at (enumerate_from (k + 1) rings) = cc in
    let zeroth : k + 0 ≡ k = omega arith in (
      ap (λ (s : SendingEnd Note). s.sender) here,
      subst (λ n. slice_get all n ≡ Some ring) zeroth (place 0 ring refl) ∙ ap (λ (s : SendingEnd Note). Some s.ring) (sym here),
      ap (λ (s : SendingEnd Note). s.sent) here,
      fresh_from (k + 1) outlets rings all later
          (λ i r is. (let next : k + suc i ≡ (k + 1) + i = omega arith in subst (λ n. slice_get all n ≡ Some r) next (place (suc i) r is))),
    )

pub fresh_all : (outlets : List (Outlet Note)) (rings : List Ring) → map outlet_of outlets ≡ new_outlets rings → AreFresh rings 0 outlets
fresh_all outlets rings are = grind (arith, nat_tests, fresh_from)

-- nothing has arrived yet
pub gathers_none :
    (task : TaskParts) (desk : Desk) (rings : List Ring) →
    desk.collector ≡ begun task.timings task.span task.planners task.limit → inlet_of desk.inlet ≡ new_inlet rings →
    desk.first_fault ≡ None →
    length rings ≡ task.planners → is_size task.planners ≡ true → task.span.since ≤ task.span.upto → IsGathering task desk
gathers_none task desk rings is new none wide size ordered = grind (arith, nat_tests, length-replicate, get_or-replicate)
