use Rattle.std.proofs.Common.{◌≡◌, ◌++◌, drop, true}
use Rattle.plan_units.specs.Entries.{entries_among}
use Rattle.plan_timers.specs.Timers.{names_with_file}
use Rattle.plan_timers.proofs.timers.file_timers.Given as goal

abbrev pub invariant-loop-entry : goal.invariant-loop-entry
invariant-loop-entry g l =
    g.T.Tree.is_known ≡ true →
    l.names.items ++ names_with_file (g.T.Tree.held l.tree).node l.dirs (drop l.entry-index l.entry-items)
    ≡ names_with_file (g.T.Tree.held l.tree).node l.dirs (entries_among (g.T.Tree.held l.tree) l.dirs)
