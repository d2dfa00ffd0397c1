use Rattle.std.proofs.Common.{◌≡◌, ◌++◌, drop, true}
use Rattle.plan_timers.specs.Dirs.{skipped_in_dirs}
use Rattle.plan_timers.proofs.dirs.skipped_in_dirs.Given as goal

abbrev pub invariant-loop-dir : goal.invariant-loop-dir
invariant-loop-dir g l =
    g.T.Tree.is_known ≡ true →
    l.skipped.items ++ skipped_in_dirs (g.T.Tree.held l.tree) l.read (drop l.dir-index l.dirs)
    ≡ skipped_in_dirs (g.T.Tree.held l.tree) l.read l.dirs
