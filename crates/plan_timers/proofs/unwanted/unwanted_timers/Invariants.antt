use Rattle.std.proofs.Common.{◌≡◌, ◌++◌, drop, map, true}
use Rattle.plan_timers.specs.Unwanted.{unwanted_at, unwanted_timers}
use Rattle.plan_timers.specs.Wishes.{units_view}
use Rattle.plan_timers.proofs.unwanted.unwanted_timers.Given as goal

abbrev pub invariant-loop-entry : goal.invariant-loop-entry
invariant-loop-entry g l =
    g.T.Tree.is_known ≡ true →
    l.skipped.items ++ map (λ entry. unwanted_at entry.path) (drop l.entry-index l.entry-items)
    ≡ unwanted_timers (g.T.Tree.held l.tree) (units_view l.units)
