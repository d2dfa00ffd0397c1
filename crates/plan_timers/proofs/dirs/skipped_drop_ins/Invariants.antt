use Rattle.std.proofs.Common.{◌≡◌, ◌++◌, drop, true}
use Rattle.plan_timers.specs.Dirs.{skipped_drop_ins}
use Rattle.plan_timers.proofs.dirs.skipped_drop_ins.Given as goal

abbrev pub invariant-loop-name : goal.invariant-loop-name
invariant-loop-name g l =
    g.T.Tree.is_known ≡ true →
    l.skipped.items ++ skipped_drop_ins (g.T.Tree.held l.tree) l.read l.dir (drop l.name-index l.names)
    ≡ skipped_drop_ins (g.T.Tree.held l.tree) l.read l.dir l.names
