use Rattle.std.proofs.Common.{◌≡◌, true}
use Rattle.std.specs.Vec.Iter.{into_iter_items}
use Rattle.plan_timers.specs.Timers.{found_view, with_timers}
use Rattle.plan_timers.specs.Wishes.{units_view}
use Rattle.plan_timers.proofs.timers.with_timers.Given as goal

abbrev pub invariant-loop-name : goal.invariant-loop-name
invariant-loop-name g l =
    g.T.Tree.is_known ≡ true →
    with_timers (g.T.Tree.held l.tree) (units_view l.units) (found_view l.found) (into_iter_items l.name-iterator)
    ≡ with_timers (g.T.Tree.held l.tree) (units_view l.units) (found_view l.fn.found) l.fn.names.items
