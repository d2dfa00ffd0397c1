use Rattle.std.proofs.Common.{◌≡◌, ◌++◌, true, drop, filter, map}
use Rattle.plan_idle.specs.Known.{has_names}
use Rattle.plan_idle.proofs.known.tops_among.Given as goal

-- the paths so far, and those among the ones that are left, are those among all
abbrev pub invariant-loop-path : goal.invariant-loop-path
invariant-loop-path g l =
    g.T.Tree.is_known ≡ true →
    l.tops.items ++ filter (has_names (g.T.Tree.held l.tree)) (map (λ path. path.now) (drop l.path-index l.paths))
    ≡ filter (has_names (g.T.Tree.held l.tree)) (map (λ path. path.now) l.paths)
