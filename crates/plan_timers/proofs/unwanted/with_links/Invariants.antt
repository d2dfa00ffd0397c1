use Rattle.std.proofs.Common.{◌≡◌, drop, true, []}
use Rattle.plan_timers.specs.Unwanted.{with_links}
use Rattle.plan_timers.specs.Wishes.{units_view}
use Rattle.plan_timers.proofs.unwanted.with_links.Given as goal

abbrev pub invariant-loop-link : goal.invariant-loop-link
invariant-loop-link g l =
    g.T.Tree.is_known ≡ true →
    with_links (g.T.Tree.held l.tree) (units_view l.units) l.found.items (drop l.link-index l.units.links.now)
    ≡ with_links (g.T.Tree.held l.tree) (units_view l.units) [] l.units.links.now
