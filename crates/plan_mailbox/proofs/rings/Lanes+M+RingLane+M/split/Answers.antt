-- For the loop of `Rings::split` and its `outlets`, `room` and `inlet`. Each iteration appends the two ends of one lane.
-- At the end all lanes were yielded. A new mailbox has sent nothing, so by its type no lane was used, and the ends of
-- unused lanes are new ones by RingsApart.antt.
use Rattle.std.proofs.Common.{All, map, ap, ◌∙◌, append_assoc, arith}
use Rattle.std.specs.Vec.Iter.{into_iter_items}
use Rattle.std.proofs.lemmas.List.{length-append, map-append}
use Rattle.plan_mailbox.proofs.Places.{all_yielded}
use Rattle.plan_mailbox.proofs.RingsApart.{IsUnused, end_from, free_in, outlet_from, enumerate_from-push, free-apart, inlet-apart, outlets-apart}
use Rattle.plan_mailbox.proofs.rings.Lanes+M+RingLane+M.split.Goals as goal
use Rattle.std.proofs.lemmas.Bool.Decides.{nat_tests}
use Rattle.std.proofs.lemmas.Grind.{common_steps}

pub loop-lane-preserved : goal.loop-lane-preserved
loop-lane-preserved g c = grind (arith, nat_tests, common_steps, length-append, outlet_from, free_in, append_assoc, map-append, enumerate_from-push)

pub returns-clause-outlets : goal.returns-clause-outlets
returns-clause-outlets g c = grind (arith, nat_tests, common_steps, IsUnused, all_yielded, outlet_from, outlets-apart)

pub returns-clause-room : goal.returns-clause-room
returns-clause-room g c =
    let self = c.args.self in
    let unused : All IsUnused self.lanes.items = self.unused (ap (λ b. b.has_sent) c.requires) in
    let all = all_yielded c.loop-lane.yielded (into_iter_items c.loop-lane.lane-iterator) self.lanes.items
    c.loop-lane.invariant.left (omega (arith, c.in-None.ensures.steps.0, c.loop-lane.lane-iterator.rest.ok)) in
    free-apart self.lanes.items c.loop-lane.outlets.items self.room (c.loop-lane.invariant.free ∙ ap (map free_in) all) unused self.reserved

pub returns-clause-inlet : goal.returns-clause-inlet
returns-clause-inlet g c = grind (arith, nat_tests, common_steps, IsUnused, all_yielded, end_from, inlet-apart)
