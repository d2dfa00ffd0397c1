use Rattle.std.proofs.Common.{◌≡◌, drop, true}
use Rattle.plan_services.specs.Accuracy.{accuracy_after_files}
use Rattle.plan_services.proofs.accuracy.accuracy_after_files.Given as goal

abbrev pub invariant-loop-file : goal.invariant-loop-file
invariant-loop-file g l =
    g.T.Tree.is_known ≡ true →
    accuracy_after_files (g.T.Tree.held l.tree) l.accuracy (drop l.file-index l.files)
    ≡ accuracy_after_files (g.T.Tree.held l.tree) l.before l.files
