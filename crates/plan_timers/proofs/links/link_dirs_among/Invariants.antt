use Rattle.std.proofs.Common.{◌≡◌, ◌++◌, drop, true}
use Rattle.plan_timers.specs.Links.{link_dirs_among}
use Rattle.plan_timers.proofs.links.link_dirs_among.Given as goal

abbrev pub invariant-loop-name : goal.invariant-loop-name
invariant-loop-name g l =
    g.T.Tree.is_known ≡ true →
    l.found.items ++ link_dirs_among (g.T.Tree.held l.tree).node l.dir (drop l.name-index l.names)
    ≡ link_dirs_among (g.T.Tree.held l.tree).node l.dir l.names
