use Rattle.std.proofs.Common.{◌≡◌, ◌++◌, drop, map, true}
use Rattle.std.specs.List.{flat_map}
use Rattle.agenda_machine.specs.Loaded.{idle_of, kept_source, loaded_from, unloaded_from}
use Rattle.agenda_machine.proofs.loaded.loaded_from.Given as goal

-- what is loaded and what isn't planned so far, with that of the sources that are left, is all
abbrev pub invariant-loop-source : goal.invariant-loop-source
invariant-loop-source g l = record {
  sources : g.T.Tree.is_known ≡ true →
      l.loaded.items
      ++ map (kept_source (g.T.Tree.held l.tree) l.idle) (loaded_from l.unplanned l.daemon (drop l.source-index l.sources))
      ≡ map (kept_source (g.T.Tree.held l.tree) l.idle) (loaded_from l.unplanned l.daemon l.sources);
  reports : l.reports.items ++ unloaded_from l.unplanned l.daemon (drop l.source-index l.sources)
      ≡ unloaded_from l.unplanned l.daemon l.sources;
  jobs : g.T.Tree.is_known ≡ true →
      l.jobs.items ++ flat_map (idle_of (g.T.Tree.held l.tree) l.idle l.unplanned l.daemon) (drop l.source-index l.sources)
      ≡ flat_map (idle_of (g.T.Tree.held l.tree) l.idle l.unplanned l.daemon) l.sources;
}
