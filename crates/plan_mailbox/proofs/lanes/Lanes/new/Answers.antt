use Rattle.std.proofs.Common.{◌≡◌, [], false, length, arith}
use Rattle.plan_mailbox.proofs.Places.{map_replicate}
use Rattle.plan_mailbox.proofs.Calls.{IsNew-at}
use Rattle.plan_mailbox.proofs.lanes.Lanes.new.Goals as goal

pub returns-clause-made : goal.returns-clause-made
returns-clause-made g c =
    let lanes = c.in_ok-new_lanes.field-0 in
    let many : length lanes.items ≡ c.args.senders = omega (arith, lanes.ok, c.in_ok-new_lanes.ensures.many) in
    let nothing_waits = map_replicate g.L.Lane.waiting [] lanes.items c.args.senders many c.in_ok-new_lanes.ensures.empty in
    let none_closed = map_replicate g.L.Lane.closed false lanes.items c.args.senders many c.in_ok-new_lanes.ensures.not_closed in
    rw (nothing_waits, none_closed)

pub returns-clause-is_new : goal.returns-clause-is_new
returns-clause-is_new g c = IsNew-at _ c.args.senders c.args.room (returns-clause-made g c)
