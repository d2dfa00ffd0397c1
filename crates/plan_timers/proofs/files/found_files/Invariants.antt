use Rattle.std.proofs.Common.{◌≡◌, ◌++◌, drop, true}
use Rattle.plan_timers.specs.Files.{files_among, skipped_among}
use Rattle.plan_timers.proofs.files.found_files.Given as goal

abbrev pub invariant-loop-entry : goal.invariant-loop-entry
invariant-loop-entry g l = record {
  files : g.T.Tree.is_known ≡ true →
      l.files.items ++ files_among (g.T.Tree.held l.tree) l.most (drop l.entry-index l.entries)
      ≡ files_among (g.T.Tree.held l.tree) l.most l.entries;
  skipped : g.T.Tree.is_known ≡ true →
      l.skipped.items ++ skipped_among (g.T.Tree.held l.tree) l.most (drop l.entry-index l.entries)
      ≡ skipped_among (g.T.Tree.held l.tree) l.most l.entries;
}
