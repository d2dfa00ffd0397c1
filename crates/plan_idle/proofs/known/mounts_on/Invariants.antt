use Rattle.std.proofs.Common.{◌≡◌, ◌++◌, true, drop, map}
use Rattle.std.specs.List.{filter_map}
use Rattle.plan_idle.specs.Known.{mount_on}
use Rattle.plan_idle.proofs.known.mounts_on.Given as goal

-- the places so far, and those of the lines that are left, are those of all
abbrev pub invariant-loop-line : goal.invariant-loop-line
invariant-loop-line g l =
    g.T.Tree.is_known ≡ true →
    l.mounts.items ++ filter_map (mount_on (g.T.Tree.held l.tree)) (map (λ line. line.now) (drop l.line-index l.lines))
    ≡ filter_map (mount_on (g.T.Tree.held l.tree)) (map (λ line. line.now) l.lines)
