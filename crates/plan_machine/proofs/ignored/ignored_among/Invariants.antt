use Rattle.std.proofs.Common.{◌≡◌, ◌++◌, drop, true}
use Rattle.plan_machine.specs.Ignored.{ignored_among}
use Rattle.plan_machine.proofs.ignored.ignored_among.Given as goal

-- those so far, with those of the sources that are left, are all
abbrev pub invariant-loop-source : goal.invariant-loop-source
invariant-loop-source g l =
    g.T.Tree.is_known ≡ true →
    l.ignored.items ++ ignored_among (g.T.Tree.held l.tree) l.daemon (drop l.source-index l.sources)
    ≡ ignored_among (g.T.Tree.held l.tree) l.daemon l.sources
