-- A mailbox of lanes, as its callers see it (agenda).
use Rattle.std.specs.Prelude.{map}
use Rattle.plan_mailbox.specs.declared.lane.Lane as declared
use Rattle.plan_mailbox.specs.declared.lanes.Lanes.{Lanes}
use Rattle.plan_mailbox.specs.Mailbox.{Mailbox}

-- the mailbox of these lanes: the messages in the lane of a sender wait
abbrev pub mailbox_of : {M L : Type 0} {lane : declared.Ghosts L M} → Lanes M L lane → Mailbox M
mailbox_of {M} {L} {lane} lanes = record {
  room = lanes.room;
  waiting = map lane.waiting lanes.lanes.items;
  closed = map lane.closed lanes.lanes.items;
  turn = lanes.turn;
  has_sent = lanes.has_sent;
}
