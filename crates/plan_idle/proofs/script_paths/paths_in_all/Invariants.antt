use Rattle.std.proofs.Common.{◌≡◌, ◌++◌, true, drop, flat_map}
use Rattle.plan_idle.specs.Scripts.{script_paths}
use Rattle.plan_idle.proofs.script_paths.paths_in_all.Given as goal

-- the paths so far, and those in the directories that are left, are those in all
abbrev pub invariant-loop-dir : goal.invariant-loop-dir
invariant-loop-dir g l =
    g.T.Tree.is_known ≡ true →
    l.paths.items ++ flat_map (script_paths (g.T.Tree.held l.tree)) (drop l.dir-index l.dirs)
    ≡ flat_map (script_paths (g.T.Tree.held l.tree)) l.dirs
