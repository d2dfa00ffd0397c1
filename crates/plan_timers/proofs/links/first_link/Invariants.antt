use Rattle.std.proofs.Common.{◌≡◌, drop, true}
use Rattle.plan_timers.specs.Links.{first_link}
use Rattle.plan_timers.proofs.links.first_link.Given as goal

abbrev pub invariant-loop-link : goal.invariant-loop-link
invariant-loop-link g l =
    g.T.Tree.is_known ≡ true →
    first_link (g.T.Tree.held l.tree).node l.links l.name
    ≡ first_link (g.T.Tree.held l.tree).node (drop l.link-index l.links) l.name
