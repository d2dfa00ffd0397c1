use Rattle.std.proofs.Common.{◌≡◌}
use Rattle.plan_mailbox.specs.Ends.{outlet_of}
use Rattle.plan_threads.proofs.planner.send.Given as goal

-- nothing was sent, and the message that came back is the one to send
abbrev pub invariant-loop : goal.invariant-loop
invariant-loop g l = record {
  can : (goal.iterator-loop g).can_next l.iterator';
  ends : (goal.iterator-loop g).is_finite l.iterator';
  same : l.note ≡ l.fn.note;
  unsent : outlet_of l.outlet ≡ outlet_of l.fn.outlet;
}
