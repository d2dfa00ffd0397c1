use Rattle.std.proofs.Common.{◌≡◌, map, take}
use Rattle.plan_match.specs.Zone.{event_in}
use Rattle.plan_match.proofs.events.Events.in_zone.Given as goal

-- the events so far are in the zone
abbrev pub invariant-loop-event : goal.invariant-loop-event
invariant-loop-event l = l.calendars.items ≡ map (event_in l.clock) (take l.event-index l.event-items)
