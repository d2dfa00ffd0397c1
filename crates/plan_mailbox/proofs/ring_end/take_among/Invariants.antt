use Rattle.std.proofs.Common.{◌≡◌, ◌<◌, ◌≤◌, ℕ, [], vec_len}
use Rattle.plan_mailbox.specs.Ends.{known_at, receiving}
use Rattle.plan_mailbox.proofs.ring_end.take_among.Given as goal

-- nothing that is seen has changed, and no messages of the senders checked so far are known to wait
abbrev pub invariant-loop-sender : goal.invariant-loop-sender
invariant-loop-sender g l = record {
  many : vec_len l.ends ≡ vec_len l.fn.ends;
  same : receiving 0 l.ends.items ≡ receiving 0 l.fn.ends.items;
  passed : (k : ℕ) → l.from ≤ k → k < l.sender → known_at (receiving 0 l.fn.ends.items) k ≡ [];
}
