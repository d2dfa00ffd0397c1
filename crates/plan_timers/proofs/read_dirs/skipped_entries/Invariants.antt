use Rattle.std.proofs.Common.{◌≡◌, ◌++◌, drop, true}
use Rattle.plan_timers.specs.ReadDirs.{skipped_entries}
use Rattle.plan_timers.proofs.read_dirs.skipped_entries.Given as goal

abbrev pub invariant-loop-entry : goal.invariant-loop-entry
invariant-loop-entry g l =
    g.T.Tree.is_known ≡ true →
    l.skipped.items ++ skipped_entries (g.T.Tree.held l.tree).node (drop l.entry-index l.entries)
    ≡ skipped_entries (g.T.Tree.held l.tree).node l.entries
