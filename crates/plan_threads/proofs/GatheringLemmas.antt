-- The result of the messages that are taken: for `gathers` of `Desk::take`, and for `Desk::collect`. `IsGathering` has
-- the messages in the order of arrival, as a history. `gathers_more` appends a message: by induction over the history,
-- the answer to all is that to the new message after the others (`answer_on`). The first error stays the first.
use Rattle.std.proofs.Common.{◌≡◌, ℕ, zero, suc, ◌<◌, true, false, ◌==◌, List, [], ◌∷◌, ◌++◌, length, None, Some, Option, Result, Ok, Err, inl, inr, refl, ap, sym, ◌∙◌, subst, arith, append-nil}
use Rattle.std.proofs.lemmas.Bool.Decides.{nat_tests}
use Rattle.std.specs.Prelude.{slice_get, slice_set, slice_index_or, MatchResult, OnOk}
use Rattle.std.proofs.lemmas.Bool.{cases_eq, eq-eqb, ne_eqb}
use Rattle.std.proofs.lemmas.List.{length-set, get_or-set_same, get_or-set_other}
use Rattle.plan_collect.specs.declared.note.Note.{Note}
use Rattle.plan_collect.specs.declared.note.Note.TheVariants as note
use Rattle.plan_collect.specs.declared.collector.CollectFault.{CollectFault}
use Rattle.plan_collect.specs.declared.collector.CollectFault.TheVariants as collect
use Rattle.plan_collect.specs.declared.plan_fault.PlanFault.{PlanFault}
use Rattle.plan_collect.specs.Collecting.{Collected, begun, fault_of_note, after, is_complete}
use Rattle.plan_collect.specs.Merging.{answer_to, AcceptsMergings}
use Rattle.plan_collect.specs.Tiling.{notes_of}
use Rattle.plan_mailbox.specs.Ends.{NothingKnown, ReceivingEnd, IsTake, inlet_of, taken_at}
use Rattle.plan_threads.specs.declared.desk.Desk.{Desk}
use Rattle.plan_threads.specs.Gathering.{AreOf, Stands, IsAccounted, IsGathering, Meets, Steps, IsWhole}
use Rattle.plan_threads.specs.Task.{TaskParts, HasTooMany, all_notes, task_of}
use Rattle.std.proofs.lemmas.Grind.{common_steps}

-- ---- one more message

are_more :
    (planners : ℕ) (history : List (ℕ × Note)) (sent : ℕ × Note) → AreOf planners history → sent.0 < planners →
    AreOf planners (history ++ sent ∷ [])
are_more planners [] sent all own = (own, tt)
are_more planners (first ∷ history) sent all own = (all.0, are_more planners history sent all.1 own)

of_places :
    (planners : ℕ) (history : List (ℕ × Note)) → AreOf planners history → (place planner : ℕ) (note : Note) →
    slice_get history place ≡ Some (planner, note) → planner < planners
of_places planners [] all place planner note is = absurd cc
of_places planners (sent ∷ history) all zero planner note is = grind (arith, nat_tests, common_steps)
of_places planners (sent ∷ history) all (suc place) planner note is = of_places planners history all.1 place planner note is

notes_own :
    (k : ℕ) (history : List (ℕ × Note)) (s : ℕ) (m : Note) → s ≡ k →
    notes_of k (history ++ (s, m) ∷ []) ≡ notes_of k history ++ m ∷ []
notes_own k [] s m own = let is : (s == k) ≡ true = eq-eqb _ _ own in rw is refl
notes_own k (first ∷ history) s m own = grind (arith, nat_tests, cases_eq, eq-eqb, ne_eqb, notes_own k history s m own)

notes_other :
    (k : ℕ) (history : List (ℕ × Note)) (s : ℕ) (m : Note) → (s ≡ k → ⊥) → notes_of k (history ++ (s, m) ∷ []) ≡ notes_of k history
notes_other k [] s m not = let is : (s == k) ≡ false = ne_eqb _ _ not in rw is refl
notes_other k (first ∷ history) s m not = grind (arith, nat_tests, cases_eq, eq-eqb, ne_eqb, notes_other k history s m not)

-- ---- answers to one more message

-- the answer to a message and those after it, from that to the message and that to the others
abbrev pick : Option CollectFault → Result Collected CollectFault → Result Collected CollectFault
pick r next = elim r [
  | None ↦ next
  | Some fault ↦ Err fault
]

on_ok :
    (r : Option CollectFault) (now more target : Result Collected CollectFault) (d : Collected) → (now ≡ Ok d → more ≡ target) →
    pick r now ≡ Ok d → pick r more ≡ target
on_ok r now more target d go is = grind (arith, nat_tests)

on_err :
    (r : Option CollectFault) (now more : Result Collected CollectFault) (fault : CollectFault) →
    (now ≡ Err fault → more ≡ Err fault) → pick r now ≡ Err fault → pick r more ≡ Err fault
on_err r now more fault go is = grind (arith, nat_tests)

abbrev or_else : Collected → Result Collected CollectFault → Collected
or_else c (Ok d) = d
or_else c (Err fault) = c

answer_on :
    (c : Collected) (history : List (ℕ × Note)) (sent : ℕ × Note) (d : Collected) → answer_to c history ≡ Ok d →
    answer_to c (history ++ sent ∷ []) ≡ answer_to d (sent ∷ [])
answer_on c [] sent d is = let same : c ≡ d = ap (or_else c) is in ap (λ x. answer_to x (sent ∷ [])) same
answer_on c (first ∷ history) sent d is =
    let next = after c first.0 first.1 in
    on_ok (fault_of_note c first.0 first.1) (answer_to next history) (answer_to next (history ++ sent ∷ [])) (answer_to d (sent ∷ [])) d
    (answer_on next history sent d) is

answer_rejected :
    (c : Collected) (history : List (ℕ × Note)) (sent : ℕ × Note) (fault : CollectFault) → answer_to c history ≡ Err fault →
    answer_to c (history ++ sent ∷ []) ≡ Err fault
answer_rejected c [] sent fault is = absurd cc
answer_rejected c (first ∷ history) sent fault is =
    let next = after c first.0 first.1 in
    on_err (fault_of_note c first.0 first.1) (answer_to next history) (answer_to next (history ++ sent ∷ [])) fault
    (answer_rejected next history sent fault) is

one_ok : (c : Collected) (k : ℕ) (m : Note) → fault_of_note c k m ≡ None → answer_to c ((k, m) ∷ []) ≡ Ok (after c k m)
one_ok c k m is = ap (λ r. pick r (Ok (after c k m))) is

one_err :
    (c : Collected) (k : ℕ) (m : Note) (fault : CollectFault) → fault_of_note c k m ≡ Some fault → answer_to c ((k, m) ∷ []) ≡ Err fault
one_err c k m fault is = ap (λ r. pick r (Ok (after c k m))) is

met :
    (start : Collected) (history : List (ℕ × Note)) (c : Collected) (k : ℕ) (m : Note) (new : Collected) (later : Option CollectFault) →
    answer_to start history ≡ Ok c → Meets c k m new later → Stands (answer_to start (history ++ (k, m) ∷ [])) new later
met start history c k m new None so_far meets = answer_on start history (k, m) c so_far ∙ one_ok c k m meets.0 ∙ ap Ok (sym meets.1)
met start history c k m new (Some fault) so_far meets = λ given.
    answer_on start history (k, m) c so_far ∙ one_err c k m fault (meets.1 given)

dropped :
    (start : Collected) (history : List (ℕ × Note)) (c : Collected) (sent : ℕ × Note) (new : Collected) (fault : CollectFault) →
    Stands (answer_to start history) c (Some fault) → Stands (answer_to start (history ++ sent ∷ [])) new (Some fault)
dropped start history c sent new fault so_far given = answer_rejected start history sent fault (so_far given)

stepped :
    (start : Collected) (history : List (ℕ × Note)) (c : Collected) (before : Option CollectFault) (k : ℕ) (m : Note)
    (new : Collected) (later : Option CollectFault) →
    Stands (answer_to start history) c before → Steps c before k m new later →
    Stands (answer_to start (history ++ (k, m) ∷ [])) new later
stepped start history c None k m new later so_far steps = met start history c k m new later so_far steps
stepped start history c (Some fault) k m new later so_far steps =
    subst (λ r. Stands (answer_to start (history ++ (k, m) ∷ [])) new r) (sym steps.1) (dropped start history c (k, m) new fault so_far)

-- ---- what a step leaves

-- a message doesn't change the collector's task
same_after : (c : Collected) (k : ℕ) (m : Note) → task_of (after c k m) ≡ task_of c
same_after c k (note.Part job piece) = refl
same_after c k note.Last = ap (λ (n : ℕ). record (task_of c) { planners = n }) (length-set c.ended k true)

same_met :
    (c : Collected) (k : ℕ) (m : Note) (new : Collected) (later : Option CollectFault) → Meets c k m new later →
    task_of new ≡ task_of c
same_met c k m new None meets = ap task_of meets.1 ∙ same_after c k m
same_met c k m new (Some fault) meets = ap task_of meets.0

same_step :
    (c : Collected) (before : Option CollectFault) (k : ℕ) (m : Note) (new : Collected) (later : Option CollectFault) →
    Steps c before k m new later → task_of new ≡ task_of c
same_step c None k m new later steps = same_met c k m new later steps
same_step c (Some fault) k m new later steps = ap task_of steps.0

-- TooMany comes only if the agenda has too many entries
many_step :
    (task : TaskParts) (c : Collected) (before : Option CollectFault) (k : ℕ) (m : Note) (new : Collected)
    (later : Option CollectFault) →
    task_of c ≡ task → (before ≡ Some collect.TooMany → HasTooMany task) → Steps c before k m new later →
    later ≡ Some collect.TooMany → HasTooMany task
many_step task c before k m new later same so_far steps is = grind (arith, nat_tests)

-- a message is taken
pub gathers_more :
    (task : TaskParts) (desk new : Desk) (k : ℕ) (m : Note) →
    IsGathering task desk → IsTake (inlet_of desk.inlet) k m (inlet_of new.inlet) →
    Steps desk.collector desk.first_fault k m new.collector new.first_fault → IsGathering task new
gathers_more task desk new k m so_far take steps =
    let b = inlet_of desk.inlet in
    let b' = inlet_of new.inlet in
    let lanes = so_far.lanes in
    let wide = so_far.rings in
    let among = take.known_sender in
    let taken : b'.taken ≡ slice_set b.taken k (taken_at b k ++ m ∷ []) = ap (λ (x : ReceivingEnd Note). x.taken) take.taken in
    let same : b'.rings ≡ b.rings = ap (λ (x : ReceivingEnd Note). x.rings) take.taken in
    record {
      size = so_far.size;
      ordered = so_far.ordered;
      same = same_step desk.collector desk.first_fault k m new.collector new.first_fault steps ∙ so_far.same;
      lanes = ap length taken ∙ length-set b.taken k (taken_at b k ++ m ∷ []) ∙ lanes;
      rings = ap length same ∙ wide;
      too_many = many_step task desk.collector desk.first_fault k m new.collector new.first_fault so_far.same so_far.too_many steps;
      history = so_far.history ++ (k, m) ∷ [];
      known = are_more task.planners so_far.history (k, m) so_far.known (omega arith);
      each = λ j few. elim (cases_eq k j) [
        | inl own ↦ notes_own j so_far.history k m own
            ∙ ap (λ notes. notes ++ m ∷ []) (so_far.each j few)
            ∙ ap (λ s. taken_at b s ++ m ∷ []) (sym own)
            ∙ sym (get_or-set_same b.taken k (taken_at b k ++ m ∷ []) [] (omega arith))
            ∙ ap (λ s. slice_index_or (slice_set b.taken k (taken_at b k ++ m ∷ [])) s []) own
            ∙ ap (λ all. slice_index_or all j []) (sym taken)
        | inr other ↦ notes_other j so_far.history k m other ∙ so_far.each j few
            ∙ sym (get_or-set_other b.taken k j (taken_at b k ++ m ∷ []) [] (λ is. other (sym is)))
            ∙ ap (λ all. slice_index_or all j []) (sym taken)
      ];
      stands = stepped (begun task.timings task.span task.planners task.limit) so_far.history desk.collector desk.first_fault k m
          new.collector new.first_fault so_far.stands steps;
    }

-- nothing was taken
pub gathers_same :
    (task : TaskParts) (desk new : Desk) → IsGathering task desk → new.collector ≡ desk.collector →
    (inlet_of new.inlet).taken ≡ (inlet_of desk.inlet).taken → (inlet_of new.inlet).rings ≡ (inlet_of desk.inlet).rings →
    new.first_fault ≡ desk.first_fault → IsGathering task new
gathers_same task desk new so_far same taken rings still = grind (arith, nat_tests, common_steps)

-- ---- at the end

whole_so :
    (c : Collected) (answer : Result Collected CollectFault) (later : Option CollectFault) →
    (later ≡ Some collect.TooMany → HasTooMany (task_of c)) → Stands answer c later →
    MatchResult answer (λ x. is_complete x ≡ true) (λ fault. fault ≡ collect.TooMany) → IsWhole c later
whole_so c answer None many stands accepted = grind (arith, nat_tests, common_steps)
whole_so c answer (Some fault) many stands accepted = grind (arith, nat_tests, common_steps)

-- if everything that the planners send was taken, everything has arrived
pub gathers_all :
    (task : TaskParts) (desk : Desk) → AcceptsMergings → IsGathering task desk →
    ((k : ℕ) → k < task.planners → taken_at (inlet_of desk.inlet) k ≡ all_notes task k) →
    IsWhole desk.collector desk.first_fault
gathers_all task desk accepts so_far all = grind (arith, nat_tests, of_places, whole_so)

pub ok_map : (r : Result (Unit {0}) PlanFault) (A B : Type 0) → (A → B) → OnOk r A → OnOk r B
ok_map r A B go a = grind (arith, nat_tests)

-- what was accounted for was taken, if nothing waits
pub taken_all : (b : ReceivingEnd Note) (k : ℕ) (sent : List Note) → NothingKnown b → IsAccounted b k sent → taken_at b k ≡ sent
taken_all b k sent none accounted = sym (append-nil (taken_at b k)) ∙ ap (λ notes. taken_at b k ++ notes) (sym (none k)) ∙ accounted.1
