use Rattle.std.proofs.Common.{◌≡◌, ℕ, List}
use Rattle.plan_collect.specs.declared.note.Note.{Note}
use Rattle.plan_mailbox.specs.Ends.{inlet_of}
use Rattle.plan_threads.specs.Gathering.{IsAccounted, IsGathering}
use Rattle.plan_threads.specs.Task.{TaskParts}
use Rattle.plan_threads.proofs.desk.Desk.take_rest.Given as goal

-- what was known still holds
abbrev pub invariant-loop : goal.invariant-loop
invariant-loop g l = record {
  can : (goal.iterator-loop g).can_next l.iterator';
  ends : (goal.iterator-loop g).is_finite l.iterator';
  same : (
      ((task : TaskParts) → IsGathering task l.fn.self → IsGathering task l.self)
      × ((inlet_of l.self.inlet).rings ≡ (inlet_of l.fn.self.inlet).rings)
      × ((s : ℕ) (sent : List Note) → IsAccounted (inlet_of l.fn.self.inlet) s sent → IsAccounted (inlet_of l.self.inlet) s sent)
      );
}
