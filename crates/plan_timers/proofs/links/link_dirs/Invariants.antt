use Rattle.std.proofs.Common.{◌≡◌, ◌++◌, drop, true}
use Rattle.plan_timers.specs.Links.{link_dirs}
use Rattle.plan_timers.proofs.links.link_dirs.Given as goal

abbrev pub invariant-loop-dir : goal.invariant-loop-dir
invariant-loop-dir g l =
    g.T.Tree.is_known ≡ true →
    l.found.items ++ link_dirs (g.T.Tree.held l.tree) (drop l.dir-index l.dirs) ≡ link_dirs (g.T.Tree.held l.tree) l.dirs
