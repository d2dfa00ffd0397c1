use Rattle.std.proofs.Common.{◌≡◌, ◌++◌, drop, true}
use Rattle.plan_timers.specs.ReadDirs.{read_names}
use Rattle.plan_timers.proofs.read_dirs.read_names.Given as goal

abbrev pub invariant-loop-name : goal.invariant-loop-name
invariant-loop-name g l =
    g.T.Tree.is_known ≡ true →
    l.names.items ++ read_names (g.T.Tree.held l.tree).node l.dirs (drop l.name-index l.reached)
    ≡ read_names (g.T.Tree.held l.tree).node l.dirs l.reached
