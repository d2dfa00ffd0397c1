use Rattle.std.proofs.Common.{◌≡◌, ◌++◌, drop, map, true}
use Rattle.plan_services.specs.Accuracy.{conf_dirs, conf_paths}
use Rattle.plan_services.proofs.accuracy.conf_dirs.Given as goal

abbrev pub invariant-loop-path : goal.invariant-loop-path
invariant-loop-path g l =
    g.T.Tree.is_known ≡ true →
    l.dirs.items ++ conf_dirs (g.T.Tree.held l.tree).node (map (λ path. path.now) (drop l.path-index l.path-items))
    ≡ conf_dirs (g.T.Tree.held l.tree).node conf_paths
