use Rattle.std.proofs.Common.{◌≡◌, ◌++◌, true}
use Rattle.std.specs.Vec.Iter.{into_iter_items}
use Rattle.plan_services.specs.Planned.{not_planned, planned}
use Rattle.plan_services.proofs.planned.planned_timers.Given as goal

abbrev pub invariant-loop-source : goal.invariant-loop-source
invariant-loop-source g l = record {
  planned : g.T.Tree.is_known ≡ true →
      l.planned.items ++ planned (g.T.Tree.held l.tree) l.dirs (into_iter_items l.source-iterator)
      ≡ planned (g.T.Tree.held l.tree) l.dirs l.fn.sources.items;
  others : g.T.Tree.is_known ≡ true →
      l.others.items ++ not_planned (g.T.Tree.held l.tree) l.dirs (into_iter_items l.source-iterator)
      ≡ not_planned (g.T.Tree.held l.tree) l.dirs l.fn.sources.items;
}
