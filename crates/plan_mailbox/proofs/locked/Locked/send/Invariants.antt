use Rattle.std.proofs.Common.{◌≡◌}
use Rattle.plan_mailbox.proofs.locked.Locked.send.Given as goal

-- the message that came back is the one that is sent
abbrev pub invariant-loop : goal.invariant-loop
invariant-loop g l = record {
  can : (goal.iterator-loop g).can_next l.iterator';
  ends : (goal.iterator-loop g).is_finite l.iterator';
  same : l.message ≡ l.fn.message;
}
