use Rattle.std.proofs.Common.{◌≡◌, ◌++◌, drop, true}
use Rattle.plan_timers.specs.ReadDirs.{skipped_of_links}
use Rattle.plan_timers.proofs.read_dirs.skipped_of_links.Given as goal

abbrev pub invariant-loop-link : goal.invariant-loop-link
invariant-loop-link g l =
    g.T.Tree.is_known ≡ true →
    l.skipped.items ++ skipped_of_links (g.T.Tree.held l.tree) l.dirs l.names (drop l.link-index l.links)
    ≡ skipped_of_links (g.T.Tree.held l.tree) l.dirs l.names l.links
