use Rattle.std.proofs.Common.{◌≡◌, drop, true}
use Rattle.plan_services.specs.Commands.{after_files}
use Rattle.plan_services.proofs.commands.after_files.Given as goal

-- what is said so far, with the files that are left, is all
abbrev pub invariant-loop-file : goal.invariant-loop-file
invariant-loop-file g l =
    g.T.Tree.is_known ≡ true →
    after_files (g.T.Tree.held l.tree) l.commands (drop l.file-index l.files)
    ≡ after_files (g.T.Tree.held l.tree) l.fn.before l.files
