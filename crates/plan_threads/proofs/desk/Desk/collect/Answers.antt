-- For `Desk::collect`: `IsGathering` is handed on from `take_until` over `settle_all` and `take_rest` to `finish`. The
-- hard goal is that everything has arrived at `finish`: the receipts account for everything that was sent, and nothing
-- waits, so everything was taken. Then the history is a merging, and `accepts_every_merging` states its result
-- (`gathers_all`).
use Rattle.std.proofs.Common.{◌<◌, ℕ, vec_len, sym, ap, subst, ◌∙◌, arith}
use Rattle.plan_collect.specs.Planning.{Gives}
use Rattle.plan_mailbox.specs.Ends.{inlet_of}
use Rattle.plan_threads.specs.Gathering.{ArePlanners, IsAccounted, IsWhole}
use Rattle.plan_threads.specs.Task.{all_notes, answer_of, task_of}
use Rattle.plan_threads.proofs.GatheringLemmas.{gathers_all, gathers_same, ok_map, taken_all}
use Rattle.plan_threads.proofs.desk.Desk.collect.Goals as goal

pub settle_all-settled-requires : goal.settle_all-settled-requires
settle_all-settled-requires g c =
    let task = task_of c.args.self.collector in
    let so_far = c.take_until.ensures.gathers task c.requires.gathers in
    subst (λ t. ArePlanners t (inlet_of c.take_until.new.self.inlet).rings 0 c.args.threads.items) (sym so_far.same)
    (subst (λ rings. ArePlanners task rings 0 c.args.threads.items) (sym c.take_until.ensures.rings) c.requires.threads)

pub finish-requires-clause-whole : goal.finish-requires-clause-whole
finish-requires-clause-whole g c =
    let task = task_of c.args.self.collector in
    let first = c.take_until.new.self in
    let second = c.settle_all-settled.new.self in
    let last = c.take_rest.new.self in
    let so_far = c.take_until.ensures.gathers task c.requires.gathers in
    let settled = gathers_same task first second so_far c.settle_all-settled.ensures.collector c.settle_all-settled.ensures.taken
    c.settle_all-settled.ensures.rings c.settle_all-settled.ensures.first_fault in
    let sent = all_notes (task_of first.collector) in
    ok_map c.settle_all-settled.result ((k : ℕ) → k < vec_len c.args.threads → IsAccounted (inlet_of second.inlet) k (sent k))
    (IsWhole last.collector last.first_fault)
    (λ accounted. gathers_all task last c.accepts_every_merging.ensures (c.take_rest.ensures.gathers task settled)
    (λ k few. taken_all (inlet_of last.inlet) k (sent k) c.take_rest.ensures.none
    (c.take_rest.ensures.accounts k (sent k) (accounted k (omega (arith, c.if-started-planners.false, c.len-started.ensures))))
    ∙ ap (λ t. all_notes t k) so_far.same))
    c.settle_all-settled.ensures.accounts

pub returns : goal.returns
returns g c =
    let task = task_of c.args.self.collector in
    let so_far = c.take_until.ensures.gathers task c.requires.gathers in
    let settled = gathers_same task c.take_until.new.self c.settle_all-settled.new.self so_far c.settle_all-settled.ensures.collector
    c.settle_all-settled.ensures.taken c.settle_all-settled.ensures.rings c.settle_all-settled.ensures.first_fault in
    subst (λ task. Gives c.finish.result (answer_of task)) (c.take_rest.ensures.gathers task settled).same c.finish.ensures
