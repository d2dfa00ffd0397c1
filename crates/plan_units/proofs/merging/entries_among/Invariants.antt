use Rattle.std.proofs.Common.{◌≡◌, drop, true}
use Rattle.plan_units.specs.Entries.{entries_among, with_dirs}
use Rattle.plan_units.proofs.merging.entries_among.Given as goal

abbrev pub invariant-loop-dir : goal.invariant-loop-dir
invariant-loop-dir g l =
    g.T.Tree.is_known ≡ true →
    with_dirs (g.T.Tree.held l.tree) l.found.items (drop l.dir-index l.dirs) ≡ entries_among (g.T.Tree.held l.tree) l.dirs
