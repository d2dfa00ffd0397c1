-- The rings of a mailbox that is split (agenda).
use Rattle.std.specs.Prelude.{List, map}
use Rattle.plan_mailbox.specs.declared.lane.Lane as declared
use Rattle.plan_mailbox.specs.declared.lanes.Lanes.{Lanes}
use Rattle.plan_mailbox.specs.declared.rings.RingLane.{RingLane}
use Rattle.plan_mailbox.specs.Ends.{Ring, producer_ring}

-- the ring of each sender
abbrev pub rings_of : {M : Type 0} {lane : declared.Ghosts (RingLane M) M} → Lanes M (RingLane M) lane → List Ring
rings_of rings = map (λ lane. producer_ring lane.producer) rings.lanes.items
