use Rattle.std.proofs.Common.{◌≡◌}
use Rattle.std.specs.Vec.Iter.{into_iter_items}
use Rattle.plan_units.specs.Entries.{with_names}
use Rattle.plan_units.proofs.merging.add_names.Given as goal

abbrev pub invariant-loop-name : goal.invariant-loop-name
invariant-loop-name l =
    with_names l.found.items l.dir (into_iter_items l.name-iterator) ≡ with_names l.initial.found.items l.dir l.fn.names.items
