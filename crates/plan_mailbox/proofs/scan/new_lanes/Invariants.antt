use Rattle.std.proofs.Common.{◌≡◌, ◌≤◌, All, [], false, length, vec_len, vec_capacity}
use Rattle.plan_mailbox.proofs.scan.new_lanes.Given as goal

-- the lanes so far are empty, each with its capacity, and there is capacity for all lanes
abbrev pub invariant-loop : goal.invariant-loop
invariant-loop g l = record {
  many : vec_len l.lanes ≡ l.counter;
  room : l.senders ≤ vec_capacity l.lanes;
  reserved : All (λ lane. g.L.Lane.places lane ≡ l.room) l.lanes.items;
  empty : All (λ lane. g.L.Lane.waiting lane ≡ []) l.lanes.items;
  not_closed : All (λ lane. g.L.Lane.closed lane ≡ false) l.lanes.items;
  unused : All (λ lane. length (g.L.Lane.sent lane) ≡ 0) l.lanes.items;
}
