use Rattle.std.proofs.Common.{◌≡◌, drop, true}
use Rattle.plan_units.specs.UnitFile.{file_among}
use Rattle.plan_units.proofs.file.file_of_name.Given as goal

abbrev pub invariant-loop-dir : goal.invariant-loop-dir
invariant-loop-dir g l =
    g.T.Tree.is_known ≡ true →
    file_among (g.T.Tree.held l.tree).node l.dirs l.dirs l.name
    ≡ file_among (g.T.Tree.held l.tree).node l.dirs (drop l.dir-index l.dirs) l.name
