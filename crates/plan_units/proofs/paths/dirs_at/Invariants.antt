use Rattle.std.proofs.Common.{◌≡◌, [], drop, map, true}
use Rattle.plan_units.specs.SearchPath.{with_paths}
use Rattle.plan_units.proofs.paths.dirs_at.Given as goal

-- the directories so far, with those of the paths that are left, are all
abbrev pub invariant-loop-path : goal.invariant-loop-path
invariant-loop-path g l =
    g.T.Tree.is_known ≡ true →
    with_paths (g.T.Tree.held l.tree).node l.dirs.items (map (λ path. path.now) (drop l.path-index l.paths))
    ≡ with_paths (g.T.Tree.held l.tree).node [] (map (λ path. path.now) l.paths)
