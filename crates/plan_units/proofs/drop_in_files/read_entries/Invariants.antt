use Rattle.std.proofs.Common.{◌≡◌, ◌++◌, true}
use Rattle.std.specs.Vec.Iter.{into_iter_items}
use Rattle.plan_units.specs.DropIns.{read_entries}
use Rattle.plan_units.proofs.drop_in_files.read_entries.Given as goal

abbrev pub invariant-loop-entry : goal.invariant-loop-entry
invariant-loop-entry g l =
    g.T.Tree.is_known ≡ true →
    l.read.items ++ read_entries (g.T.Tree.held l.tree).node (into_iter_items l.entry-iterator)
    ≡ read_entries (g.T.Tree.held l.tree).node l.fn.found.items
