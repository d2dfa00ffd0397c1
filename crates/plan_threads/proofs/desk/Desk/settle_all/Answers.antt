-- For the call of `settle` and the loop of `Desk::settle_all`: with `done` planners joined, the threads from `done` on
-- remain. A thread keeps its promise, so its receipt is that of planner `done`, and is for all its messages unless an
-- allocation failed. If one failed, the answer is an error, and nothing is stated about receipts.
use Rattle.std.proofs.Common.{◌≡◌, ◌<◌, ◌+◌, ◌-◌, ◌∷◌, ℕ, length, vec_len, OnOk, IfErr, sym, ap, subst, ◌∙◌, arith}
use Rattle.std.specs.Vec.Iter.{into_iter_items, into_iter_len}
use Rattle.plan_mailbox.specs.Ends.{inlet_of, receipt_of}
use Rattle.plan_threads.specs.Gathering.{ArePlanners, IsAccounted, IsThreadFault}
use Rattle.plan_threads.specs.Task.{all_notes, task_of}
use Rattle.plan_threads.proofs.SettlingLemmas.{planner_ring, planner_sent, accounts_more, and_ok, and_err}
use Rattle.plan_threads.proofs.desk.Desk.settle_all.Goals as goal
use Rattle.std.specs.Prelude.{slice_get}

pub settle-requires : goal.settle-requires
settle-requires g c =
    let before = c.args.self.now in
    let so_far = c.loop-planner.invariant in
    let done = vec_len c.args.planners - into_iter_len c.loop-planner.planner-iterator in
    let some = so_far.6 in
    let are : ArePlanners (task_of before.collector) (inlet_of before.inlet).rings done
    (c.in-Some.planner ∷ into_iter_items c.next.new.self) =
    subst (ArePlanners (task_of before.collector) (inlet_of before.inlet).rings done) c.in-Some.ensures.steps.0
    (so_far.4 done (omega arith)).0 in
    ap (λ rings. slice_get rings (receipt_of c.join-receipt.result.0).sender) so_far.2
    ∙ planner_ring (task_of before.collector) (inlet_of before.inlet).rings done c.in-Some.planner.promise c.join-receipt.result are.0
    c.join-receipt.ensures

pub loop-planner-preserved-then-is_out_of_memory : goal.loop-planner-preserved-then-is_out_of_memory
loop-planner-preserved-then-is_out_of_memory g c =
    let before = c.args.self.now in
    let so_far = c.loop-planner.invariant in
    let one_less : into_iter_len c.loop-planner.planner-iterator ≡ into_iter_len c.next.new.self + 1 =
    omega (arith, c.loop-planner.planner-iterator.rest.ok, c.next.new.self.rest.ok, ap length c.in-Some.ensures.steps.0) in
    let some = so_far.6 in (
      c.settle.ensures.collector ∙ so_far.0,
      c.settle.ensures.first_fault ∙ so_far.1,
      c.settle.ensures.rings ∙ so_far.2,
      c.settle.ensures.taken ∙ so_far.3,
      (λ done are. (
        (let earlier : (done - 1) + 1 ≡ done = omega arith in
            let all : ArePlanners (task_of before.collector) (inlet_of before.inlet).rings (done - 1)
            (c.in-Some.planner ∷ into_iter_items c.next.new.self) =
            subst (ArePlanners (task_of before.collector) (inlet_of before.inlet).rings (done - 1)) c.in-Some.ensures.steps.0
            (so_far.4 (done - 1) (omega arith)).0 in
            subst (λ n. ArePlanners (task_of before.collector) (inlet_of before.inlet).rings n (into_iter_items c.next.new.self)) earlier
            all.1),
        tt,
      )),
      tt,
      omega arith,
    )

pub loop-planner-preserved : goal.loop-planner-preserved
loop-planner-preserved g c =
    let before = c.args.self.now in
    let so_far = c.loop-planner.invariant in
    let one_less : into_iter_len c.loop-planner.planner-iterator ≡ into_iter_len c.next.new.self + 1 =
    omega (arith, c.loop-planner.planner-iterator.rest.ok, c.next.new.self.rest.ok, ap length c.in-Some.ensures.steps.0) in
    let some = so_far.6 in
    let receipt = receipt_of c.join-receipt.result.0 in (
      c.settle.ensures.collector ∙ so_far.0,
      c.settle.ensures.first_fault ∙ so_far.1,
      c.settle.ensures.rings ∙ so_far.2,
      c.settle.ensures.taken ∙ so_far.3,
      (λ done are.
          let earlier : (done - 1) + 1 ≡ done = omega arith in
          let was = so_far.4 (done - 1) (omega arith) in
          let all : ArePlanners (task_of before.collector) (inlet_of before.inlet).rings (done - 1)
          (c.in-Some.planner ∷ into_iter_items c.next.new.self) =
          subst (ArePlanners (task_of before.collector) (inlet_of before.inlet).rings (done - 1)) c.in-Some.ensures.steps.0 was.0 in
          let own : receipt.sender ≡ done - 1 = c.join-receipt.ensures.0 ∙ all.0.sender in
          let sent : receipt.sent ≡ all_notes (task_of before.collector) (done - 1) = planner_sent (task_of before.collector)
          (inlet_of before.inlet).rings (done - 1) c.in-Some.planner.promise c.join-receipt.result all.0 c.join-receipt.ensures
          c.if-is_out_of_memory.false in (
            subst (λ n. ArePlanners (task_of before.collector) (inlet_of before.inlet).rings n (into_iter_items c.next.new.self)) earlier
                all.1,
            subst (λ r. OnOk r ((k : ℕ) → k < done → IsAccounted (inlet_of c.settle.new.self.inlet) k
                (all_notes (task_of before.collector) k))) (sym c.and-settled.ensures)
                (and_ok c.loop-planner.settled c.settle.result _ _
                ((k : ℕ) → k < done → IsAccounted (inlet_of c.settle.new.self.inlet) k (all_notes (task_of before.collector) k)) was.1
                c.settle.ensures.accounts
                (λ known here. λ k lt. accounts_more (all_notes (task_of before.collector)) (inlet_of c.loop-planner.self.inlet)
                (inlet_of c.settle.new.self.inlet) (done - 1) receipt.sender receipt.sent own sent here c.settle.ensures.others
                known k (omega arith))),
          )),
      subst (λ r. IfErr r IsThreadFault) (sym c.and-settled.ensures)
          (and_err c.loop-planner.settled c.settle.result so_far.5 c.settle.ensures.succeeds),
      omega arith,
    )
