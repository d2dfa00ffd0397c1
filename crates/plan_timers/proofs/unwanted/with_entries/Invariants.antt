use Rattle.std.proofs.Common.{◌≡◌, true}
use Rattle.std.specs.Vec.Iter.{into_iter_items}
use Rattle.plan_timers.specs.Unwanted.{with_entries}
use Rattle.plan_timers.specs.Wishes.{units_view}
use Rattle.plan_timers.proofs.unwanted.with_entries.Given as goal

-- those so far, with the others, are all
abbrev pub invariant-loop-entry : goal.invariant-loop-entry
invariant-loop-entry g l =
    g.T.Tree.is_known ≡ true →
    with_entries (g.T.Tree.held l.tree).node (units_view l.units) l.found.items (into_iter_items l.entry-iterator)
    ≡ with_entries (g.T.Tree.held l.tree).node (units_view l.units) l.fn.found.items l.fn.entries.items
