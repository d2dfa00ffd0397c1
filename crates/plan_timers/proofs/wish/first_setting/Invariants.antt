use Rattle.std.proofs.Common.{◌≡◌, drop, true}
use Rattle.plan_timers.specs.Wishes.{first_setting}
use Rattle.plan_timers.proofs.wish.first_setting.Given as goal

abbrev pub invariant-loop-other : goal.invariant-loop-other
invariant-loop-other g l =
    g.T.Tree.is_known ≡ true →
    first_setting (g.T.Tree.held l.tree) l.dirs l.reached l.name
    ≡ first_setting (g.T.Tree.held l.tree) l.dirs (drop l.other-index l.reached) l.name
